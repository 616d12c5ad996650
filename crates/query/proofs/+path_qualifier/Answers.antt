-- The codes from 4 to 6 read two paths.
use Rattle.std.proofs.Common.{◌≤◌, arith}
use Rattle.query.proofs.Laws.{part_step, two_paths}
use Rattle.query.proofs.+path_qualifier.Goals as goal

pub path-returns-in_err-left-in-4 : goal.path-returns-in_err-left-in-4
path-returns-in_err-left-in-4 t c =
    let least : 4 ≤ c.in_ok-code.code = grind arith in
    let most : c.in_ok-code.code ≤ 6 = omega arith in
    grind (arith, part_step, two_paths)

pub path-returns-in_ok-left-in-4 : goal.path-returns-in_ok-left-in-4
path-returns-in_ok-left-in-4 t c =
    let least : 4 ≤ c.in_ok-code.code = grind arith in
    let most : c.in_ok-code.code ≤ 6 = omega arith in
    grind (arith, part_step, two_paths)
