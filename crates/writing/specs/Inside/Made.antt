-- How what a function of the library made is answered by a call.
use Rattle.std.specs.Prelude.{ℕ, Result, Ok, Err}
use Rattle.meaning.specs.declared.Answer.{Answer}
use Rattle.meaning.specs.declared.Refusal.{Refusal}
use Rattle.writing.specs.Lent.{accepted, turned_away}

-- 0 and what was counted, or the number of the reason
abbrev pub answer_for : Result ℕ Refusal → Answer
answer_for (Ok n) = accepted n
answer_for (Err r) = turned_away r
