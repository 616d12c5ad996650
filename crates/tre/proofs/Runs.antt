-- The tokens of a file as steps from one standing to the next: the reader takes exactly these.
use Prim.Native.Nat.{ℕ, zero, suc, ◌≤◌, ◌<◌}
use mathlib.Core.Bool.{true}
use mathlib.Core.List.{List, ◌++◌, append-nil}
use mathlib.Core.Path.{◌≡◌, refl}
use native.Mathlib.Omega.{arith}
use lib.Dec.{eqb}
use lib.ListN.{length, length-append}
use borrow.Author.Tests.{lt-ltb, eq-eqb, ne_eqb, ltb-true, eqb-true, eqb-false}
use Rattle.meaning.specs.declared.Graph.{Graph}
use Rattle.meaning.specs.declared.Element.{Element}
use Rattle.meaning.specs.declared.Reason.TheVariants.{Ended, Bound, Code, Kind, Edge}
use Rattle.meaning.specs.Limits.{words}
use Rattle.meaning.specs.Graphs.{child_kind}
use Rattle.meaning.specs.Documents.{node}
use Rattle.fields.specs.Write.{byte_of, word_of}
use Rattle.fields.proofs.Formats.{Reads, Accepts, reads_bind, reads_last, reads_give, reads_judged, reads_byte, reads_word, accepts_bind, accepts_weaken, accepts_give, accepts_refuse, accepts_pick, takes_bind, takes_judged, takes_byte, takes_word}
use Rattle.tre.specs.Tre.{Open, pushed, popped, code, opened, token, tokens}

-- a token leads from one standing to the next
pub data Token (limit : ℕ) (g : Graph) (o : Open) : Open → List ℕ → Type 0 where
  opens : {t x : ℕ} → length o.elements < limit → t < g.k → child_kind g (node o.elements o.inner).kind t ≡ true → x < words
      → Token limit g o (pushed o t x) (byte_of 0x01 ++ byte_of t ++ word_of x)
  shuts : 0 < length o.elements → Token limit g o (popped o) (byte_of 0x02)

-- the tokens of es, from o on
pub data Run (limit : ℕ) (g : Graph) (es : List Element) : Open → List ℕ → Type 0 where
  last : {o p : Open} {e : List ℕ} → Token limit g o p e → p.inner ≡ 0 → p.elements ≡ es → Run limit g es o e
  more : {o p : Open} {e b : List ℕ} → Token limit g o p e → (p.inner ≡ 0 → ⊥) → Run limit g es p b → Run limit g es o (e ++ b)

module _ (limit : ℕ) (g : Graph) where
  pub token_accepts : (o : Open) → Accepts (token limit g o) (λ p e. Token limit g o p e)
  unfolding token code opened
  token_accepts o =
      takes_bind (takes_judged _ Edge (takes_judged _ Bound (takes_judged _ Code takes_byte))) λ c known.
      accepts_pick (eqb c 0x01)
      (λ h. let one = eqb-true c 0x01 h in takes_bind (takes_judged _ Edge (takes_judged _ Kind takes_byte)) λ t typed. takes_bind takes_word λ x small.
      accepts_give (rw one (opens (ltb-true _ _ (rw one at known.0.1)) (ltb-true _ _ typed.0.1) typed.1 small)))
      (λ h. let two = eqb-true c 0x02 (rw h at known.0.0.1) in accepts_give (rw two (shuts (ltb-true _ _ (rw two at known.1)))))

  token_reads : {o p : Open} {e : List ℕ} → Token limit g o p e → Reads (token limit g o) e p
  unfolding token code opened
  token_reads {o} (opens {t} {x} few typed edge small) =
      reads_bind _ (reads_judged _ Edge (reads_judged _ Bound (reads_judged _ Code (reads_byte 0x01) refl) (lt-ltb _ _ few)) refl)
      (reads_bind _ (reads_judged _ Edge (reads_judged _ Kind (reads_byte t) (lt-ltb _ _ typed)) edge) (reads_last _ (reads_word x) (reads_give (pushed o t x))))
  token_reads {o} (shuts some) =
      reads_last _ (reads_judged _ Edge (reads_judged _ Bound (reads_judged _ Code (reads_byte 0x02) refl) refl) (lt-ltb _ _ some)) (reads_give (popped o))

  pub token_long : {o p : Open} {e : List ℕ} → Token limit g o p e → 0 < length e
  token_long (opens few typed edge small) = omega arith
  token_long (shuts some) = omega arith

  pub tokens_accept : (f : ℕ) (o : Open) → Accepts (tokens f limit g o) (λ es b. Run limit g es o b)
  unfolding tokens
  tokens_accept zero o = accepts_refuse Ended
  tokens_accept (suc f) o =
      accepts_bind (token_accepts o) λ p e t.
      accepts_pick (eqb p.inner 0)
      (λ z. accepts_give (rw (append-nil e) (last t (eqb-true _ _ z) refl)))
      (λ n. accepts_weaken (tokens_accept f p) (λ es b r. more t (eqb-false _ _ n) r))

  pub tokens_read : (f : ℕ) {es : List Element} {o : Open} {b : List ℕ} → Run limit g es o b → length b ≤ f → Reads (tokens f limit g o) b es
  unfolding tokens
  tokens_read zero (last t z e) l = absurd (omega (arith, token_long t))
  tokens_read zero (more {e = e} {b} t n r) l = absurd (omega (arith, token_long t, length-append e b))
  tokens_read (suc f) (last {p = p} t z e) l = reads_last _ (token_reads t) (rw (eq-eqb p.inner 0 z, ← e) (reads_give p.elements))
  tokens_read (suc f) (more {p = p} {e} {b} t n r) l =
      reads_bind _ (token_reads t) (rw (ne_eqb p.inner 0 n) (tokens_read f r (omega (arith, token_long t, length-append e b))))
