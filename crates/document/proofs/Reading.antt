-- The loop over tokens: what reading goes on from, and one law for each way on from a token.
use Rattle.std.proofs.Common.{ℕ, ◌≡◌, ◌-◌, ◌≤◌, ◌<◌, List, length, get_or, sym, ◌∙◌, arith, w8, Fits, eqb}
use borrow.Author.Tests.{ne_eqb}
use Rattle.meaning.specs.declared.Graph.{Graph}
use Rattle.meaning.specs.declared.Element.{Element}
use Rattle.meaning.specs.declared.Refusal.{Refusal}
use Rattle.meaning.specs.Limits.{element_limit}
use Rattle.fields.specs.Read.{Read, got, refused, bind, pick, give}
use Rattle.tre.specs.Tre.{Open, token, tokens}
use Rattle.tre.proofs.Turns.{token_moves, tokens_turn}

-- What is to be read is what the tokens from here on come to.
pub record Reaches (w : Read (List Element)) (g : Graph) (s : List ℕ) (o : Open) (at : ℕ) : Type 0 where
  pub fuel : ℕ
  pub enough : length s - at ≤ fuel
  pub same : w ≡ tokens fuel element_limit g o s at

module _ {w : Read (List Element)} {g : Graph} {s : List ℕ} {o : Open} {at : ℕ} (inv : Reaches w g s o at) where
  turn : w ≡ bind (token element_limit g o s at) (λ p. pick (eqb p.inner 0) (give p.elements) (tokens (inv.fuel - 1) element_limit g p) s)
  turn = inv.same ∙ tokens_turn element_limit g o s at inv.fuel inv.enough

  pub turn_refused : {r : Refusal} → refused r ≡ token element_limit g o s at → refused r ≡ w
  turn_refused h = rw (turn, ← h)

  module _ {p : Open} {next : ℕ} (h : got p next ≡ token element_limit g o s at) where
    pub turn_less : ((i : ℕ) → Fits w8 (get_or s i 0)) → length s - next < length s - at
    turn_less bytes = token_moves element_limit g o s at (λ i. (bytes i).fits) (sym h)

    -- element 1 is closed
    pub turn_last : p.inner ≡ 0 → got p.elements next ≡ w
    turn_last z = rw (turn, ← h, z)

    pub turn_again : ((i : ℕ) → Fits w8 (get_or s i 0)) → (p.inner ≡ 0 → ⊥) → Reaches w g s p next
    turn_again bytes z =
        record {
          fuel = inv.fuel - 1;
          enough = omega (arith, turn_less bytes, inv.enough);
          same = rw (turn, ← h, ne_eqb p.inner 0 z);
        }
