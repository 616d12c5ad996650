-- A file that there is room for stands in the buffer, and is the file that the call wrote.
use Prim.Native.Nat.{ℕ, ◌≤◌, ◌<◌}
use mathlib.Core.Path.{◌≡◌, ap, ◌∙◌}
use mathlib.Core.List.{List}
use native.Mathlib.Nat.{zero-add}
use lib.ListN.{length}
use borrow.Author.Tests.{le-leb, lt-leb}
use Rattle.meaning.specs.declared.Reason.TheVariants.{Room}
use Rattle.writing.specs.Lent.{accepted, over, untouched, stored, file_in}
use Rattle.writing.specs.declared.Writer.{Writer}
use Rattle.writing.specs.Inside.Wrote.{Wrote}
use Rattle.writing.proofs.Puts.{over_front}

module _ (file out : List ℕ) where
  pub stored_none : length out < length file → stored file out ≡ untouched (record { reason = Room }) out
  unfolding stored
  stored_none l = rw (lt-leb (length file) (length out) l)

  pub stored_there : length file ≤ length out → stored file out ≡ record { answer = accepted (length file); bytes = over 0 file out }
  unfolding stored
  stored_there l = rw (le-leb (length file) (length out) l)

  pub stored_file : length file ≤ length out → file_in (stored file out) ≡ file
  stored_file l = ap file_in (stored_there l) ∙ over_front file out

pub stored_all : {file : List ℕ} {old new : Writer} → old.at ≡ 0 → length file ≤ length old.out.now → Wrote file old new → stored file old.out.now ≡ record { answer = accepted new.at; bytes = new.out.now }
stored_all {file} {old} start l w = stored_there file old.out.now l ∙ rw (w.behind, w.there, start, zero-add (length file))
