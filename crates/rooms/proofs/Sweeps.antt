-- The closure by sweeps, as relations: what is added is in it, so many sweeps hold so many steps, and a sweep that adds
-- nothing, or only leads up, leaves it closed.
use Prim.Native.Nat.{ℕ, zero, suc, ◌+◌, ◌≤◌, ◌<◌}
use mathlib.Core.Path.{◌≡◌, refl, sym, ap, ◌∙◌, subst}
use mathlib.Core.Bool.{Bool, true, false, not, ◌&&◌, ◌||◌}
use native.Mathlib.Numerals.{add-one}
use native.Mathlib.Omega.{arith}
use Rattle.meaning.specs.Sets.{any}
use Rattle.meaning.specs.Relations.{Relation, OneOrMore, one, more, within, closure}
use Rattle.meaning.proofs.Tests.{never, same, and_in, and_left, and_right, or_left, or_right, or_out}
use Rattle.meaning.proofs.Sets.{any_in, any_out}
use Rattle.meaning.proofs.Closure.{On, closure_sound, closure_complete}
use Rattle.rows.specs.declared.Mix.TheVariants.{First}
use Rattle.rows.specs.Inside.Rows.{gathered, mixes}
use Rattle.rooms.specs.Inside.Rooms.{changed, Grown}
use Rattle.rows.proofs.Cases.{by_order, by_equal}
use Rattle.rooms.proofs.Changes.{changed_here, changed_else}

passes : (a : Bool) → (a ≡ false → ⊥) → a ≡ true
passes true h = refl
passes false h = absurd (h refl)

neither : (a b : Bool) → a || b ≡ false → (a ≡ false) × (b ≡ false)
neither true b h = never (sym h)
neither false b h = (refl, h)

module _ (size : ℕ) (r : Relation) where
  -- a step in front of some steps
  front : {v u w : ℕ} → r v u ≡ true → OneOrMore r u w → OneOrMore r v w
  front e (one h) = more (one e) h
  front e (more p h) = more (front e p) h

  -- the first of up to k + 1 steps
  within_front : {P : Type 0} (k v w : ℕ) → (r v w ≡ true → P) → ((u : ℕ) → u < size → r v u ≡ true → within k size r u w ≡ true → P) → within (suc k) size r v w ≡ true → P
  unfolding within
  within_front zero v w f g h = or_out (r v w) _ f (any_out size _ (λ u l e. never (and_right (r u w) _ e))) h
  within_front (suc k) v w f g h =
      or_out (r v w) _ f
      (any_out size (λ u. r u w && within (suc k) size r v u) λ u l e.
      let last : r u w ≡ true = and_left (r u w) _ e in
      within_front k v u (λ q. g u l q (or_left (r u w) _ last))
      (λ x m q p. g x m q (or_right (r x w) _ (any_in size (λ y. r y w && within k size r x y) u l (and_in last p))))
      (and_right (r u w) _ e)) h

  -- the closure holds what one step, and then it, leads to
  pub closure_over : On size r → (v u w : ℕ) → r v u ≡ true → closure size r u w ≡ true → closure size r v w ≡ true
  closure_over on v u w e h = closure_complete size r on (front e (closure_sound size r h))

  -- A sweep that has come down to a row: where nothing grew all is as it was, and where nothing points back the rows lead up.
  pub record Sweeping (before after : Relation) (from : ℕ) (grew back : Bool) : Type 0 where
    pub grown : Grown size r before after from
    pub still : grew ≡ false → (v w : ℕ) → after v w ≡ true → before v w ≡ true
    pub rising : back ≡ false → (v u : ℕ) → from ≤ v → v < size → r v u ≡ true → v < u

  -- One row more has taken in: v's, from what is there by now.
  module _ {b c d : Relation} (v : ℕ) {limit : ℕ} {g k t s : Bool} (n : Sweeping b c (v + 1) g k) (on : On limit r)
      (now : (u w : ℕ) → d u w ≡ changed v (gathered limit c (r v) (c v)) c u w) (few : On limit d)
      (added : t ≡ any limit (λ w. mixes First (d v w) (c v w))) (behind : s ≡ any (v + 1) (r v)) where
    there : (w : ℕ) → d v w ≡ gathered limit c (r v) (c v) w
    there w = now v w ∙ changed_here v _ c refl w

    elsewhere : (u w : ℕ) → (u ≡ v → ⊥) → d u w ≡ c u w
    elsewhere u w e = now u w ∙ changed_else v _ c e w

    -- what is there by now stays
    stays : (u w : ℕ) → c u w ≡ true → d u w ≡ true
    unfolding gathered
    stays u w h =
        by_equal u v
        (λ e. ap (λ (x : ℕ). d x w) e ∙ there w ∙ or_left (c v w) _ (sym (ap (λ (x : ℕ). c x w) e) ∙ h))
        (λ e. elsewhere u w e ∙ h)

    taken : (x u w : ℕ) → x ≡ v → r x u ≡ true → c u w ≡ true → d x w ≡ true
    unfolding gathered
    taken x u w q e h =
        let f : r v u ≡ true = sym (ap (λ (y : ℕ). r y u) q) ∙ e in
        ap (λ (y : ℕ). d y w) q ∙ there w ∙ or_right (c v w) _ (any_in limit (λ x. r v x && c x w) u (on v u f).1 (and_in f h))

    -- what is there was there by then, or was taken in from it
    out : (P : ℕ → Type 0) (u w : ℕ) → (c u w ≡ true → P u) → ((x : ℕ) → r v x ≡ true → c x w ≡ true → P v) → d u w ≡ true → P u
    unfolding gathered
    out P u w f m h =
        by_equal u v
        (λ e. subst P (sym e) (or_out (c v w) _ (λ q. subst P e (f (ap (λ (x : ℕ). c x w) e ∙ q)))
        (any_out limit (λ x. r v x && c x w) (λ x l q. m x (and_left (r v x) _ q) (and_right (r v x) _ q)))
        (sym (there w) ∙ sym (ap (λ (x : ℕ). d x w) e) ∙ h)))
        (λ e. f (sym (elsewhere u w e) ∙ h))

    unchanged : t ≡ false → (x w : ℕ) → d x w ≡ true → c x w ≡ true
    unfolding mixes
    unchanged e x w h =
        by_equal x v
        (λ q. passes (c x w) λ m.
        let i : d v w ≡ true = sym (ap (λ (y : ℕ). d y w) q) ∙ h in
        never (sym e ∙ added ∙ any_in limit (λ y. mixes First (d v y) (c v y)) w (few v w i).1 (and_in i (ap not (sym (ap (λ (y : ℕ). c y w) q) ∙ m)))))
        (λ q. sym (elsewhere x w q) ∙ h)

    -- a row above v is as it was by then
    higher : (u w : ℕ) → v < u → d u w ≡ true → c u w ≡ true
    higher u w l h = sym (elsewhere u w (λ e. omega arith)) ∙ h

    pub sweeping_more : Sweeping b d v (g || t) (k || s)
    sweeping_more = record {
      grown = record {
        keeps = λ x w h. stays x w (n.grown.keeps x w h);
        takes = λ x u w l m e h. by_equal x v (λ q. taken x u w q e (n.grown.keeps u w h)) (λ q. stays x w (n.grown.takes x u w (omega arith) m e h));
        settles = λ x u w l m i e h. let before = higher u w (omega arith) h in
            by_equal x v (λ q. taken x u w q e before) (λ q. stays x w (n.grown.settles x u w (omega arith) m i e before));
        sound = λ p over in_p x w h.
            out (λ y. p y w ≡ true) x w (n.grown.sound p over in_p x w) (λ u e q. over v u w e (n.grown.sound p over in_p u w q)) h;
      };
      still = λ e x w h. n.still (neither g t e).0 x w (unchanged (neither g t e).1 x w h);
      rising = λ e x u l m h. by_equal x v
          (λ q. by_order x u (λ o. o)
          (λ o. never (sym (neither k s e).1 ∙ behind ∙ any_in (v + 1) (r v) u (omega arith) (sym (ap (λ (y : ℕ). r y u) q) ∙ h))))
          (λ q. n.rising (neither k s e).0 x u (omega arith) m h);
    }

  -- as many as k steps are in, and nothing that is not in the closure
  pub record Closing (after : Relation) (k : ℕ) : Type 0 where
    pub inside : (v w : ℕ) → after v w ≡ true → closure size r v w ≡ true
    pub holds : (v w : ℕ) → within k size r v w ≡ true → after v w ≡ true

  within_one : (k v w : ℕ) → 1 ≤ k → r v w ≡ true → within k size r v w ≡ true
  unfolding within
  within_one zero v w l h = absurd (omega arith)
  within_one (suc k) v w l h = or_left (r v w) _ h

  one_within : (v w : ℕ) → within 1 size r v w ≡ true → r v w ≡ true
  unfolding within
  one_within v w h = or_out (r v w) _ (λ e. e) (any_out size _ (λ u l e. never (and_right (r u w) _ e))) h

  module _ (on : On size r) where
    pub closing_one : Closing r 1
    closing_one = record { inside = λ v w h. closure_complete size r on (one h); holds = one_within }

    pub closing_all : {b : Relation} {k : ℕ} → Closing b k → k ≡ size → (v w : ℕ) → b v w ≡ closure size r v w
    unfolding closure
    closing_all {b} {k} n e v w = same (b v w) _ (n.inside v w) (λ h. n.holds v w (ap (λ (j : ℕ). within j size r v w) e ∙ h))

    -- A sweep over what holds k steps.
    module _ {b c : Relation} {k : ℕ} (n : Closing b k) (l : 1 ≤ k) (s : Grown size r b c 0) where
      step_in : (v w : ℕ) → r v w ≡ true → c v w ≡ true
      step_in v w h = s.keeps v w (n.holds v w (within_one k v w l h))

      pub closing_more : Closing c (k + 1)
      closing_more = record {
        inside = s.sound (closure size r) (closure_over on) n.inside;
        holds = λ v w h. within_front k v w (step_in v w) (λ u m e q. s.takes v u w (omega arith) (on v u e).0 e (n.holds u w q))
            (sym (ap (λ (j : ℕ). within j size r v w) (add-one k)) ∙ h);
      }

      -- if it is closed under one step in front, any number of steps are in
      module _ (closed : (v u w : ℕ) → v < size → r v u ≡ true → c u w ≡ true → c v w ≡ true) where
        steps_in_lem : (j v w : ℕ) → within j size r v w ≡ true → c v w ≡ true
        unfolding within
        steps_in_lem zero v w h = never h
        steps_in_lem (suc j) v w h = within_front j v w (step_in v w) (λ u m e q. closed v u w (on v u e).0 e (steps_in_lem j u w q)) h

        pub closing_closed : (v w : ℕ) → c v w ≡ closure size r v w
        unfolding closure
        closing_closed v w = same (c v w) _ (closing_more.inside v w) (steps_in_lem size v w)
