-- The closes of an accepted document, one for each element passed on the way up, and the length of its file.
use Prim.Native.Nat.{ℕ, zero, suc, ◌+◌, ◌*◌, ◌≤◌, ◌<◌}
use mathlib.Core.Logic.{⊎_elim}
use mathlib.Core.List.{List, ◌∷◌, ◌++◌}
use mathlib.Core.Path.{◌≡◌, sym, ap, ◌∙◌}
use native.Mathlib.Nat.{eq-or-lt_of_le}
use native.Mathlib.Omega.{arith}
use lib.ListN.{length, replicate, length-append, length-replicate, get_or-eq_default}
use Rattle.meaning.specs.declared.Graph.{Graph}
use Rattle.meaning.specs.declared.Element.{Element}
use Rattle.meaning.specs.Documents.{document_node, node, Accepted}
use Rattle.fields.specs.Write.{byte_of}
use Rattle.tre.specs.Tre.{closes, open_of, tokens_of, document_bytes}
use Rattle.tre.proofs.Climbs.{Up, here, up, closes_none, closes_one, up_parent, up_least, parent_less, rule_up, root_up}
use Rattle.rebuilder.specs.Inside.TokensFit.{closes_after}

-- the bytes of the document of n elements
abbrev pub length_of_document : ℕ → ℕ
length_of_document n = 5 + 5 * n

-- how many elements are passed on the way up
passed : {es : List Element} {a b : ℕ} → Up es a b → ℕ
passed here = 0
passed (up p u) = suc (passed u)

further : {es : List Element} {a b c : ℕ} (u : Up es a b) (v : Up es b c) → (w : Up es a c) × (passed w ≡ passed u + passed v)
unfolding passed
further here v = (v, omega arith)
further (up p u) v = let (w, e) = further u v in (up p w, omega (arith, e))

-- after the last element the document node follows, whose parent is 0
pub past_last : (es : List Element) (a : ℕ) → length es ≤ a → (node es (suc a)).parent ≡ 0
unfolding node
past_last es a l = rw (get_or-eq_default es document_node {n = a} l)

module _ {limit : ℕ} {g : Graph} {es : List Element} (accepted : Accepted limit g es) where
  pub less : (i : ℕ) → 0 < i → i ≤ length es → (node es i).parent < i
  less = parent_less limit g es accepted

  closes_are : (f : ℕ) {a b : ℕ} (u : Up es a b) → a ≤ f → a ≤ length es → closes f es a b ≡ replicate (passed u) 0x02
  unfolding passed
  closes_are f (here {a}) k l = closes_none f es a
  closes_are zero (up p u) k l = absurd (omega arith)
  closes_are (suc f) (up {a} {b} p u) k l =
      let d = less a p l in
      let w = up_least es (length es) less u (omega arith) in
      closes_one f es a b (λ e. omega arith) ∙ ap (λ c. 0x02 ∷ c) (closes_are f u (omega arith) (omega arith))

  -- one close, and then those of the parent
  pub closes_up : {a b : ℕ} → 0 < a → Up es (node es a).parent b → a ≤ length es → closes (length es) es a b ≡ byte_of 0x02 ++ closes (length es) es (node es a).parent b
  unfolding passed
  closes_up {a} p u l =
      let d = less a p l in
      closes_are (length es) (up {a = a} p u) l l ∙ ap (λ c. 0x02 ∷ c) (sym (closes_are (length es) u (omega arith) (omega arith)))

  -- node 0 is above all
  up_zero : (a : ℕ) → a ≤ length es → Up es a 0
  up_zero zero l = here
  up_zero (suc a) l =
      let first : (node es 1).parent ≡ 0 = omega (arith, less 1 (omega arith) (omega arith)) in
      rw first at (up_parent (root_up limit g es accepted (suc a) (suc a) (omega arith) (omega arith) l) (omega arith))

  pub up_next : {a : ℕ} → a ≤ length es → Up es a (node es (suc a)).parent
  up_next {a} l =
      ⊎_elim
      (λ e. rw (past_last es a (omega arith)) (up_zero a l))
      (λ m. (rule_up limit g es accepted a m).0)
      (eq-or-lt_of_le l)

  -- an element adds its own close, and those that come before it are no longer to come
  one_more : (a : ℕ) → a < length es → suc (length (closes (length es) es a 0)) ≡ length (closes_after es a) + length (closes (length es) es (suc a) 0)
  unfolding passed
  one_more a l =
      let d = less (suc a) (omega arith) l in
      let u = up_next {a = a} (omega arith) in
      let v = up_zero (node es (suc a)).parent (omega arith) in
      let (w, e) = further u v in
      simp
      (closes_are (length es) u (omega arith) (omega arith), closes_are (length es) w (omega arith) (omega arith), closes_are (length es) (up {a = suc a} (omega arith) v) l l, length-replicate)
      (omega (arith, e))

  -- each element that follows takes five bytes, and each that is open a close
  tokens_length : (a n : ℕ) → a + n ≡ length es → length (tokens_of es a n) ≡ 5 * n + length (closes (length es) es a 0)
  unfolding tokens_of
  tokens_length a zero e = omega arith
  tokens_length a (suc n) e =
      omega (arith, length-append (closes_after es a) (open_of (node es (suc a)) ++ tokens_of es (suc a) n), one_more a (omega arith), tokens_length (suc a) n (omega arith))

  pub document_length : length (document_bytes es) ≡ length_of_document (length es)
  unfolding document_bytes
  document_length = omega (arith, tokens_length 0 (length es) (omega arith), ap length (closes_none (length es) es 0))
