-- The file: the room is judged by its length, then header, k and the tables are written.
use Prim.Native.Nat.{ℕ, zero, suc, ◌+◌, ◌*◌, ◌≤◌, ◌<◌}
use mathlib.Core.List.{List}
use mathlib.Core.Path.{◌≡◌, refl}
use native.Mathlib.Omega.{arith}
use lib.ListN.{length, length-append}
use Rattle.meaning.specs.declared.Element.{Element}
use Rattle.meaning.specs.declared.Graph.{Graph}
use Rattle.meaning.specs.declared.Reason.TheVariants.{Room}
use Rattle.meaning.specs.Graphs.{LegalGraph}
use Rattle.meaning.specs.Documents.{Accepted}
use Rattle.fields.specs.Write.{byte_of, header_of}
use Rattle.edg.specs.Edg.{rows_of, rows_bytes, table_bytes, tables_of, tables_bytes}
use Rattle.edg.proofs.Rows.{rows_length}
use Rattle.edg.proofs.File.{tabled, tabled_count}
use Rattle.writing.specs.Lent.{accepted, turned_away, stored, Leaves}
use Rattle.writing.specs.declared.Writer.{Writer}
use Rattle.writing.specs.Inside.Wrote.{Wrote}
use Rattle.writing.proofs.Writing.{wrote_then}
use Rattle.writing.proofs.Stored.{stored_none, stored_all}
use Rattle.shredder.specs.Inside.RowsFit.{HeldUnder, RowsFit}

-- the bytes of the tables of n elements under k types
abbrev length_of_tables : ℕ → ℕ → ℕ
length_of_tables k n = 6 + k + 4 * n

-- a byte for each type, and four for each row
tabled_length : (es : List Element) (t n : ℕ) → length (tables_of es t n) ≡ n + 4 * length (tabled es t n)
unfolding tables_of table_bytes tabled
tabled_length es t zero = refl
tabled_length es t (suc n) =
    let rs = rows_of t 1 es in
    omega (arith, tabled_length es (suc t) n, rows_length rs, length-append (rows_bytes rs) (tables_of es (suc t) n), length-append rs (tabled es (suc t) n))

pub tables_length : {limit : ℕ} {g : Graph} {es : List Element} → LegalGraph g → Accepted limit g es → length (tables_bytes g es) ≡ length_of_tables g.k (length es)
unfolding tables_bytes
tables_length {g = g} {es} legal accepted = omega (arith, tabled_length es 0 g.k, tabled_count legal accepted)

module _ {g : Graph} {es : List Element} (held : HeldUnder g es) where
  file_length : length (tables_bytes g es) ≡ length_of_tables g.k (length es)
  file_length = tables_length held.legal held.accepted

  pub no_room : (out : List ℕ) → length out < length_of_tables g.k (length es) → Leaves (stored (tables_bytes g es) out) (turned_away (record { reason = Room })) out
  no_room out l = stored_none (tables_bytes g es) out (omega (arith, file_length))

  module _ {old x y : Writer} (start : old.at ≡ 0) (l : length_of_tables g.k (length es) ≤ length old.out.now) (header : Wrote (header_of 0x45 0x44 0x47 1) old x) (counted : Wrote (byte_of g.k) x y) where
    pub tables_fit : RowsFit es (tables_of es 0 g.k) y
    unfolding tables_bytes
    tables_fit = record { most = held.accepted.most_elements; room = omega (arith, file_length, header.behind, header.long, counted.behind, counted.long) }

    module _ {new : Writer} (tables : Wrote (tables_of es 0 g.k) y new) where
      all_written : Wrote (tables_bytes g es) old new
      unfolding tables_bytes
      all_written = wrote_then (wrote_then header counted) tables

      pub length_fits : new.at < 65536
      length_fits = omega (arith, all_written.behind, file_length, held.accepted.most_elements, held.legal.most_types)

      pub all_stored : Leaves (stored (tables_bytes g es) old.out.now) (accepted new.at) new.out.now
      all_stored = stored_all start (omega (arith, file_length)) all_written
