-- Laws of the results of a program, the same for rows and for announced pairs.
use Prim.Native.Nat.{ℕ, zero, suc, ◌+◌, ◌<◌}
use mathlib.Core.Path.{◌≡◌, refl, ◌∙◌}
use mathlib.Core.List.{List, [], ◌∷◌, ◌++◌}
use native.Mathlib.Omega.{arith}
use lib.ListN.{length, length-append, get_or-append}
use lib.Seq.{get_or_at}
use Rattle.meaning.specs.declared.Operation.{Operation}
use Rattle.meaning.specs.Relations.{Relation, nothing, at}
use Rattle.meaning.specs.Operations.{results}

module _ (f : List Relation → Operation → Relation) where
  pub results_append : (rs : List Relation) (os more : List Operation) → results f rs (os ++ more) ≡ results f (results f rs os) more
  unfolding results
  results_append rs [] more = refl
  results_append rs (o ∷ os) more = results_append (rs ++ (f rs o ∷ [])) os more

  pub results_length : (rs : List Relation) (os : List Operation) → length (results f rs os) ≡ length rs + length os
  unfolding results
  results_length rs [] = omega arith
  results_length rs (o ∷ os) =
      omega (arith, results_length (rs ++ (f rs o ∷ [])) os, length-append rs (f rs o ∷ []))

  -- a result once made stays
  pub results_keep : (rs : List Relation) (os : List Operation) (s : ℕ) → s < length rs → at (results f rs os) s ≡ at rs s
  unfolding results
  results_keep rs [] s l = refl
  results_keep rs (o ∷ os) s l =
      results_keep (rs ++ (f rs o ∷ [])) os s (omega (arith, length-append rs (f rs o ∷ [])))
      ∙ get_or-append rs (f rs o ∷ []) nothing s l

  -- what one operation more adds
  pub results_last : (rs : List Relation) (o : Operation) (s : ℕ) → length rs ≡ s → at (results f rs (o ∷ [])) s ≡ f rs o
  unfolding results
  results_last rs o s e = get_or_at rs (f rs o) [] nothing s e

-- S holds of what two lists have at each place, past their ends too
abbrev Agree : (Relation → Relation → Type 0) → List Relation → List Relation → Type 0
Agree S rs ps = (s : ℕ) → S (at rs s) (at ps s)

module _ (S : Relation → Relation → Type 0) (none : S nothing nothing) where
  agree_append : (rs ps : List Relation) (r p : Relation) → length rs ≡ length ps → Agree S rs ps → S r p → Agree S (rs ++ (r ∷ [])) (ps ++ (p ∷ []))
  agree_append [] [] r p e a h zero = h
  agree_append [] [] r p e a h (suc s) = none
  agree_append [] (y ∷ ps) r p e a h s = absurd (omega arith)
  agree_append (x ∷ rs) [] r p e a h s = absurd (omega arith)
  agree_append (x ∷ rs) (y ∷ ps) r p e a h zero = a 0
  agree_append (x ∷ rs) (y ∷ ps) r p e a h (suc s) = agree_append rs ps r p (omega arith) (λ s. a (suc s)) h s

  module _ (f h : List Relation → Operation → Relation)
      (step : (rs ps : List Relation) (o : Operation) → Agree S rs ps → S (f rs o) (h ps o)) where
    agree_from : (rs ps : List Relation) (os : List Operation) → length rs ≡ length ps → Agree S rs ps → Agree S (results f rs os) (results h ps os)
    unfolding results
    agree_from rs ps [] e a = a
    agree_from rs ps (o ∷ os) e a =
        agree_from (rs ++ (f rs o ∷ [])) (ps ++ (h ps o ∷ [])) os
        (omega (arith, length-append rs (f rs o ∷ []), length-append ps (h ps o ∷ [])))
        (agree_append rs ps (f rs o) (h ps o) e a (step rs ps o a))

    -- what each operation keeps, given that it holds of the results so far, holds of every step of two runs
    pub results_agree : (os : List Operation) → Agree S (results f [] os) (results h [] os)
    results_agree os = agree_from [] [] os refl (λ s. none)
