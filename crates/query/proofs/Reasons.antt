-- A query file is turned away with a number from 1 to 10.
use Prim.Native.Nat.{ℕ, zero, suc, ◌-◌, ◌≤◌}
use mathlib.Core.List.{List}
use mathlib.Core.Path.{◌≡◌}
use native.Mathlib.Omega.{arith}
use lib.Dec.{ltb}
use Rattle.meaning.specs.declared.Reason.TheVariants.{Bound, Code}
use Rattle.meaning.specs.declared.Refusal.{Refusal}
use Rattle.meaning.specs.Limits.{query_limit}
use Rattle.meaning.specs.Refused.{number_of}
use Rattle.fields.specs.Read.{refused}
use Rattle.fields.proofs.Reasons.{OfFile, none, reason_low, of_give, of_bind, of_pick, of_refuse, of_byte, of_header, of_ended}
use Rattle.query.specs.Qry.{Sort, path, PartReader, Follows, following, node_code, here, part, query_file}
use Rattle.query.proofs.Parts.{Row, leaf_row, field_row, one_row, two_row, no_row, code_rows}

of_following : {k : ℕ} {σ : Sort} {c : ℕ} {parts : (τ : Sort) → PartReader τ} {r : Follows σ}
    → ((τ : Sort) (n : ℕ) → OfFile (parts τ n)) → (place : ℕ) → Row k σ c r → (n : ℕ) → OfFile (following parts place r n)
of_following P place (leaf_row h e l) n = of_give
of_following P place (field_row h A p) n = of_bind p λ v. of_give
of_following P place (one_row {τ} h) n = of_bind (P τ n) λ a. of_give
of_following P place (two_row {τ} {υ} h) n = of_bind (P τ n) λ a. of_bind (P υ a.1) λ b. of_give
of_following P place no_row n = record { why = λ s at. (of_refuse Code (omega arith)).why s place }

of_here : OfFile here
of_here = record { why = λ s at. none }

of_code : (n : ℕ) → OfFile (node_code n)
unfolding node_code
of_code n = of_pick (ltb 0 n) of_byte (of_refuse Bound (omega arith))

of_part : (k f : ℕ) (σ : Sort) (n : ℕ) → OfFile (part k f σ n)
unfolding part
of_part k zero σ n = of_refuse Bound (omega arith)
of_part k (suc f) σ n = of_bind of_here λ place. of_bind (of_code n) λ c. of_following (of_part k f) place (code_rows k σ c) (n - 1)

pub query_reason : (k : ℕ) (s : List ℕ) {r : Refusal} → query_file k s 0 ≡ refused r → number_of r.reason ≤ 10
unfolding query_file
query_reason k s h = reason_low (of_ended (of_bind (of_header 0x51 0x52 0x59 1) λ _. of_part k query_limit path query_limit)) s h
