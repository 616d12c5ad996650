-- The check of a program under a graph: its answer has 17 sets of kinds for every step, one per kind.
use Rattle.std.specs.Prelude.{ℕ, List, replicate}
use Rattle.meaning.specs.Limits.{step_limit}
use Rattle.meaning.specs.Relations.{nothing}
use Rattle.meaning.specs.Refused.{number_of}
use Rattle.fields.specs.Read.{Read, got, refused, mapped}
use Rattle.files.specs.Files.{program_under}
use Rattle.masks.specs.declared.Announced.{Announced}
use Rattle.masks.specs.Announcement.{announced_sets, announcement}
use Rattle.announce.specs.declared.Checked.{Checked}

-- what the check answers of the graph and the program that it has read
unfoldable pub checked : Read (List Announced) → Checked
checked (got steps n) = record { number = 0; steps = steps }
checked (refused r) = record { number = number_of r.reason; steps = replicate step_limit (announced_sets nothing) }

unfoldable pub check_of : List ℕ → List ℕ → Checked
check_of gra rel = checked (mapped (λ x. announcement x.0 x.1) (program_under gra rel))
