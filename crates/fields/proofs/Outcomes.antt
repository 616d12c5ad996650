-- What a reading was of which this was handed on.
use Rattle.std.proofs.Common.{arith, refl, ap, ℕ, ◌≡◌, ◌∙◌, Result, Ok, Err, IsErrAnd}
use Rattle.std.proofs.lemmas.Result.{err_from_is_err_and}
use Rattle.meaning.specs.declared.Refusal.{Refusal}
use Rattle.fields.specs.Read.{Read, got, refused, mapped}
use Rattle.fields.specs.Inside.Outcomes.{file_of}

pub turned : {A : Type 0} (e : Read A) {r : Refusal} → Err r ≡ file_of e → e ≡ refused r
turned (got a at) h = cc
turned (refused q) h = cc

pub held : {A : Type 0} (e : Read A) {a : A} → Ok a ≡ file_of e → (n : ℕ) × (e ≡ got a n)
held (got b at) h = (at, cc)
held (refused r) h = (0, cc)

-- the same of a reading of which something is made
pub mapped_turned : {A B : Type 0} (f : A → B) (e : Read A) {r : Refusal} → Err r ≡ file_of (mapped f e) → e ≡ refused r
unfolding mapped
mapped_turned f (got a at) h = cc
mapped_turned f (refused q) h = cc

pub mapped_held : {A B : Type 0} (f : A → B) (e : Read A) {b : B} → Ok b ≡ file_of (mapped f e) → (a : A) × (n : ℕ) × (e ≡ got a n) × (b ≡ f a)
unfolding mapped
mapped_held f (got a at) h = (a, at, refl, cc)
mapped_held f (refused r) h = let z : ◌≡◌ {A = ℕ} 0 1 = cc in absurd (omega arith)

-- what `?` hands on is the refusal that it met
pub handed_on : {T E : Type 0} {e : E} (r : Result T E) → IsErrAnd r (λ y. y ≡ e) → r ≡ Err e
handed_on r h = let (y, is, same) = err_from_is_err_and r h in is ∙ ap Err same
