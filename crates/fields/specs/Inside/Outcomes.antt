-- What the code answers and hands on of a reading.
use Rattle.std.specs.Prelude.{Bool, Result, Ok, Err}
use Rattle.meaning.specs.declared.Refusal.{Refusal}
use Rattle.fields.specs.declared.Cursor.{Cursor}
use Rattle.fields.specs.Read.{Read, got, refused, pick}

-- what a field reader's answer says
abbrev pub read_of : {A : Type 0} → Result (A × Cursor) Refusal → Read A
read_of (Ok (a, c)) = got a c.at
read_of (Err r) = refused r

-- what is answered for a field, by whether it passes
unfoldable pub answered : {A : Type 0} → Bool → Result (A × Cursor) Refusal → Refusal → Result (A × Cursor) Refusal
answered passes field r = pick passes field (Err r)

-- what is handed on of a whole file
abbrev pub file_of : {A : Type 0} → Read A → Result A Refusal
file_of (got a at) = Ok a
file_of (refused r) = Err r
