-- What a reading of elements was of which this was handed on.
use Rattle.std.proofs.Common.{ℕ, ◌≡◌, ◌≤◌, sym, ap, ◌∙◌, arith, List, length, take, length-take, Ok, Err}
use Rattle.meaning.specs.declared.Element.{Element}
use Rattle.meaning.specs.declared.Refusal.{Refusal}
use Rattle.fields.specs.Read.{Read, got, refused}
use Rattle.elements.specs.Inside.Keeping.{Keeps}

-- it was refused
pub kept_away : (e : Read (List Element)) (kept : List Element) {r : Refusal} → Keeps e kept (Err r) → e ≡ refused r
kept_away (got es at) kept k = cc k.0
kept_away (refused q) kept k = cc k

-- it was accepted: its elements are the first n that are kept
pub record Kept (e : Read (List Element)) (kept : List Element) (n : ℕ) : Type 0 where
  pub at : ℕ
  pub reads : e ≡ got (take n kept) at
  pub whole : length (take n kept) ≡ n
  pub room : n ≤ length kept

pub kept_there : (e : Read (List Element)) (kept : List Element) (n : ℕ) → Keeps e kept (Ok n) → Kept e kept n
kept_there (got es at) kept n k =
    let count : n ≡ length es = cc k.0 in
    let same : take n kept ≡ es = ap (λ i. take i kept) count ∙ k.1 in
    let whole : length (take n kept) ≡ n = ap length same ∙ sym count in
    record { at = at; reads = ap (λ l. got l at) (sym same); whole = whole; room = omega (arith, whole, length-take n kept) }
kept_there (refused q) kept n k = cc k
