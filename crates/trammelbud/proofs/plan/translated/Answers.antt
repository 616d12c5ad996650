-- More steps than a program may have are turned away; else the file is read back.
use Rattle.std.proofs.Common.{rules, refl, sym, length-take-le}
use Rattle.fields.proofs.Outcomes.{handed_on}
use Rattle.trammelbud.proofs.Plans.{too_many, file_inside, read_back}
use Rattle.trammelbud.proofs.plan.translated.Goals as goal

pub returns-in_err-length : goal.returns-in_err-length
returns-in_err-length c = rw (handed_on c.from_residual.result c.from_residual.ensures.1) (too_many c.requires _ (search rules) c.in_err-length.ensures refl)

pub slice_bounds-rel-end : goal.slice_bounds-rel-end
slice_bounds-rel-end c = file_inside c.requires _ (search rules) c.in_ok-length.ensures refl

pub slice_bounds-read-end : goal.slice_bounds-read-end
slice_bounds-read-end c = sym (length-take-le _ _ (file_inside c.requires _ (search rules) c.in_ok-length.ensures refl))

pub returns : goal.returns
returns c = read_back c.requires _ (search rules) c.in_ok-length.ensures refl _ c.read.ensures.value c.read.ensures.numbered
