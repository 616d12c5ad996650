-- A document file is turned away with a number from 1 to 10.
use Prim.Native.Nat.{ℕ, zero, suc, ◌≤◌}
use mathlib.Core.List.{List}
use mathlib.Core.Path.{◌≡◌}
use native.Mathlib.Omega.{arith}
use lib.Dec.{eqb}
use lib.ListN.{length}
use Rattle.meaning.specs.declared.Graph.{Graph}
use Rattle.meaning.specs.declared.Reason.TheVariants.{Ended, Bound, Code, Kind, Edge}
use Rattle.meaning.specs.declared.Refusal.{Refusal}
use Rattle.meaning.specs.Refused.{number_of}
use Rattle.fields.specs.Read.{refused}
use Rattle.fields.proofs.Reasons.{OfFile, reason_low, of_give, of_bind, of_pick, of_refuse, of_judged, of_byte, of_word, of_header, of_ended}
use Rattle.tre.specs.Tre.{Open, nothing_open, code, opened, token, tokens, document_read, document_file}

module _ (limit : ℕ) (g : Graph) where
  of_token : (o : Open) → OfFile (token limit g o)
  unfolding token code opened
  of_token o =
      of_bind (of_judged Edge (omega arith) _ (of_judged Bound (omega arith) _ (of_judged Code (omega arith) _ of_byte))) λ c.
      of_pick (eqb c 0x01)
      (of_bind (of_judged Edge (omega arith) _ (of_judged Kind (omega arith) _ of_byte)) λ t. of_bind of_word λ x. of_give)
      of_give

  of_tokens : (f : ℕ) (o : Open) → OfFile (tokens f limit g o)
  unfolding tokens
  of_tokens zero o = of_refuse Ended (omega arith)
  of_tokens (suc f) o = of_bind (of_token o) λ p. of_pick (eqb p.inner 0) of_give (of_tokens f p)

  of_document : OfFile (document_read limit g)
  unfolding document_read
  of_document = of_bind (of_header 0x54 0x52 0x45 1) λ _. record { why = λ s at. (of_tokens (length s) nothing_open).why s at }

  pub document_reason : (s : List ℕ) {r : Refusal} → document_file limit g s 0 ≡ refused r → number_of r.reason ≤ 10
  unfolding document_file
  document_reason s h = reason_low (of_ended of_document) s h
