-- Reading goes by turns, a token each: a token takes a byte or more, so there are bytes for as many turns as are left.
use Prim.Native.Nat.{ℕ, zero, suc, ◌-◌, ◌≤◌, ◌<◌}
use mathlib.Core.List.{List}
use mathlib.Core.Path.{◌≡◌, sym, ◌∙◌}
use native.Mathlib.Omega.{arith}
use lib.Dec.{eqb}
use lib.ListN.{length}
use borrow.Author.Tests.{le-ltb}
use Rattle.meaning.specs.declared.Graph.{Graph}
use Rattle.meaning.specs.declared.Reason.TheVariants.{Ended}
use Rattle.fields.specs.Read.{got, bind, give, pick, refuse, judged, byte}
use Rattle.fields.specs.Write.{Bytes}
use Rattle.fields.proofs.Formats.{refused_out}
use Rattle.tre.specs.Tre.{Open, code, token, tokens}
use Rattle.tre.proofs.Runs.{token_accepts, token_long}

module _ (limit : ℕ) (g : Graph) (o : Open) (s : List ℕ) (at : ℕ) where
  token_past : length s ≤ at → token limit g o s at ≡ refuse Ended s at
  unfolding token code judged byte
  token_past l = simp (le-ltb at (length s) l)

  pub token_moves : {p : Open} {n : ℕ} → Bytes s → token limit g o s at ≡ got p n → length s - n < length s - at
  token_moves bs h =
      let there : length s ≤ at → ⊥ = λ l. refused_out (sym (token_past l) ∙ h) in
      let u = (token_accepts limit g o).accepts bs (omega arith) h in
      omega (arith, token_long limit g u.holds)

  pub tokens_turn : (f : ℕ) → length s - at ≤ f
      → tokens f limit g o s at ≡ bind (token limit g o s at) (λ p. pick (eqb p.inner 0) (give p.elements) (tokens (f - 1) limit g p) s)
  unfolding tokens
  tokens_turn zero l = simp (token_past (omega arith))
  tokens_turn (suc f) l = let less : suc f - 1 ≡ f = omega arith in simp less
