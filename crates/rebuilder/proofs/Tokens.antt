-- One law for each need of the functions that write tokens: those of an element, and those that are still to come.
use Prim.Native.Nat.{ℕ, suc, ◌+◌, ◌-◌, ◌≤◌, ◌<◌}
use mathlib.Core.List.{List, ◌++◌}
use mathlib.Core.Path.{◌≡◌, refl}
use native.Mathlib.Numerals.{add-one}
use native.Mathlib.Omega.{arith}
use lib.ListN.{length, get_or}
use Rattle.std.proofs.lemmas.List.{get_or_default}
use Rattle.meaning.specs.declared.Element.{Element}
use Rattle.meaning.specs.Documents.{document_node, node}
use Rattle.tre.specs.Tre.{open_of, tokens_of}
use Rattle.writing.specs.declared.Writer.{Writer}
use Rattle.writing.specs.Inside.Wrote.{Wrote}
use Rattle.writing.proofs.Toward.{Toward, toward_none, toward_room, toward_more, toward_last}
use Rattle.rebuilder.specs.Inside.TokensFit.{closes_after, tokens_in, TokensFit}
use Rattle.rebuilder.proofs.Closes.{past_last}

-- the tokens behind element n
abbrev pub tokens_after : List Element → ℕ → List ℕ
tokens_after es n = tokens_of es n (length es - n)

module _ {es : List Element} {old : Writer} (start : TokensFit es (tokens_in es) old) where
  module _ {w : Writer} (n : ℕ) (so_far : Toward (tokens_in es) old (tokens_after es n) w) where
    -- an element follows: closes, its open, and the tokens behind it
    module _ (l : n < length es) where
      tokens_next : (e : Element) → tokens_after es n ≡ closes_after es n ++ (open_of (get_or es n e) ++ tokens_after es (n + 1))
      unfolding tokens_of node
      tokens_next e = let left : length es - n ≡ suc (length es - suc n) = omega arith in rw (left, add-one n, get_or_default es n e document_node l)

      pub closes_fit : TokensFit es (closes_after es n) w
      closes_fit = record { held = start.held; room = toward_room (closes_after es n) (open_of (get_or es n document_node) ++ tokens_after es (n + 1)) so_far (tokens_next document_node) }

      module _ (e : Element) {mid : Writer} (closed : Wrote (closes_after es n) w mid) where
        closed_so_far : Toward (tokens_in es) old (open_of (get_or es n e) ++ tokens_after es (n + 1)) mid
        closed_so_far = toward_more (open_of (get_or es n e) ++ tokens_after es (n + 1)) closed so_far (tokens_next e)

        pub open_fits : mid.at + 4 ≤ length mid.out.now
        open_fits = toward_room (open_of (get_or es n e)) (tokens_after es (n + 1)) closed_so_far refl

        pub tokens_more : {new : Writer} → Wrote (open_of (get_or es n e)) mid new → Toward (tokens_in es) old (tokens_after es (n + 1)) new
        tokens_more opened = toward_more (tokens_after es (n + 1)) opened closed_so_far refl

    -- after the last only closes follow
    module _ (l : n ≤ length es) (m : length es ≤ n) where
      tokens_last : tokens_after es n ≡ closes_after es (length es)
      unfolding tokens_of
      tokens_last = let left : length es - n ≡ 0 = omega arith in let all : n ≡ length es = omega arith in rw (left, past_last es (length es) (omega arith), all)

      pub last_closes_fit : TokensFit es (closes_after es (length es)) w
      last_closes_fit = record { held = start.held; room = rw (← tokens_last) so_far.room }

      pub tokens_all : {new : Writer} → Wrote (closes_after es (length es)) w new → Wrote (tokens_in es) old new
      tokens_all closed = toward_last so_far (rw tokens_last closed)

pub ruleset laws = (toward_none, closes_fit, open_fits, tokens_more, last_closes_fit)
