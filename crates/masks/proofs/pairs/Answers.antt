-- SELF and TEXT read no step: each is made of the live kinds.
use Rattle.masks.proofs.Operations.{showing}
use Rattle.masks.proofs.pairs.Goals as goal

pub returns-in-Itself : goal.returns-in-Itself
returns-in-Itself c = search showing

pub returns-in-Text-eq0 : goal.returns-in-Text-eq0
returns-in-Text-eq0 c = search showing

pub returns-in-Text : goal.returns-in-Text
returns-in-Text c = search showing
