-- Places: what stands in the places that are lent for the rows.
use Prim.Native.Nat.{ℕ, zero, suc, ◌+◌, ◌-◌, ◌≤◌, ◌<◌}
use mathlib.Core.Path.{◌≡◌, refl, ap, ◌∙◌}
use mathlib.Core.List.{List}
use native.Mathlib.Omega.{arith}
use lib.ListN.{length, get_or, take, replicate, length-set, length-take}
use Rattle.meaning.specs.declared.Element.{Element}
use Rattle.meaning.specs.Limits.{element_limit}
use Rattle.meaning.specs.Documents.{document_node, node}
use Rattle.edg.specs.declared.Row.{Row}
use Rattle.edg.specs.Inside.GoodRow.{GoodRow}
use Rattle.edg.proofs.Lists.{set_keeps, take_keeps, same_anywhere}
use Rattle.tables.specs.declared.Numbers.{Numbers}
use Rattle.tables.specs.Inside.Gathered.{Gathered, gathered_in, none, put, Sound}

-- the places before the first row
pub blank_none : {kept : List Element} {n : ℕ} → n ≡ element_limit → kept ≡ replicate n document_node → gathered_in kept (record { times = replicate element_limit 0; total = 0 }) ≡ none
unfolding none
blank_none l e = rw (e, l)

-- what is kept of no rows is sound
pub none_sound : {c : Gathered} → c ≡ none → Sound c
unfolding none
none_sound e = rw e (record {
  elements_long = refl;
  times_long = refl;
  times_most = λ i. omega (arith, same_anywhere {A = ℕ} 0 element_limit i);
  total_most = omega arith;
  falling = λ i. omega (arith, ap (λ (e : Element). e.parent) (same_anywhere document_node element_limit i));
})

-- and so is what is kept of one more
pub put_sound : (c : Gathered) (r : Row) → Sound c → c.total < element_limit → GoodRow element_limit r → Sound (put c r)
unfolding put
put_sound c r sound room good = record {
  elements_long = length-set c.elements (r.number - 1) r.element ∙ sound.elements_long;
  times_long = length-set c.times (r.number - 1) _ ∙ sound.times_long;
  times_most =
      set_keeps (λ i n. n ≤ c.total + 1) c.times (r.number - 1) _ 0
      (λ i. omega (arith, sound.times_most i)) (omega (arith, sound.times_most (r.number - 1)));
  total_most = omega arith;
  falling = set_keeps (λ i e. e.parent ≤ i) c.elements (r.number - 1) r.element document_node sound.falling (omega (arith, good.falling));
}

falls : (es : List Element) → ((i : ℕ) → (get_or es i document_node).parent ≤ i) → (v : ℕ) → 0 < v → (node es v).parent < v
unfolding node
falls es h zero p = absurd (omega arith)
falls es h (suc i) p = omega (arith, h i)

-- the elements of the rows so far
module _ (kept : List Element) (n : Numbers) (sound : Sound (gathered_in kept n)) where
  pub kept_most : length (take n.total kept) ≤ element_limit
  kept_most = omega (arith, length-take n.total kept, sound.total_most)

  pub kept_falling : (v : ℕ) → 0 < v → (node (take n.total kept) v).parent < v
  kept_falling = falls _ (take_keeps (λ j e. e.parent ≤ j) n.total kept document_node sound.falling (λ j. omega arith))
