-- The file: the room is judged by its length, then header and tokens are written.
use Prim.Native.Nat.{ℕ, ◌≤◌, ◌<◌}
use mathlib.Core.List.{List}
use mathlib.Core.Path.{◌≡◌}
use native.Mathlib.Omega.{arith}
use lib.ListN.{length}
use Rattle.meaning.specs.declared.Element.{Element}
use Rattle.meaning.specs.declared.Reason.TheVariants.{Room}
use Rattle.fields.specs.Write.{header_of}
use Rattle.tre.specs.Tre.{document_bytes}
use Rattle.writing.specs.Lent.{accepted, turned_away, stored, Leaves}
use Rattle.writing.specs.declared.Writer.{Writer}
use Rattle.writing.specs.Inside.Wrote.{Wrote}
use Rattle.writing.proofs.Writing.{wrote_then}
use Rattle.writing.proofs.Stored.{stored_none, stored_all}
use Rattle.rebuilder.specs.Inside.TokensFit.{Held, tokens_in, TokensFit}
use Rattle.rebuilder.proofs.Closes.{length_of_document, document_length}

module _ {es : List Element} (held : Held es) where
  file_length : length (document_bytes es) ≡ length_of_document (length es)
  file_length = document_length held.accepted

  pub no_room : (out : List ℕ) → length out < length_of_document (length es) → Leaves (stored (document_bytes es) out) (turned_away (record { reason = Room })) out
  no_room out l = stored_none (document_bytes es) out (omega (arith, file_length))

  module _ {old mid : Writer} (start : old.at ≡ 0) (l : length_of_document (length es) ≤ length old.out.now) (header : Wrote (header_of 0x54 0x52 0x45 1) old mid) where
    pub tokens_fit : TokensFit es (tokens_in es) mid
    unfolding document_bytes
    tokens_fit = record { held = held; room = omega (arith, file_length, header.behind, header.long) }

    module _ {new : Writer} (tokens : Wrote (tokens_in es) mid new) where
      all_written : Wrote (document_bytes es) old new
      unfolding document_bytes
      all_written = wrote_then header tokens

      pub length_fits : new.at < 65536
      length_fits = omega (arith, all_written.behind, file_length, held.accepted.most_elements)

      pub all_stored : Leaves (stored (document_bytes es) old.out.now) (accepted new.at) new.out.now
      all_stored = stored_all start (omega (arith, file_length)) all_written
