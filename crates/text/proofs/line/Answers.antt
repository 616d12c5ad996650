-- Number, type and text number, each with the byte behind it.
use Rattle.text.proofs.Turns.{line_written}
use Rattle.text.proofs.line.Goals as goal

pub returns : goal.returns
returns c = line_written _ _ c.node_at-element.ensures c.from.ensures c.from-2.ensures c.field.ensures c.field-2.ensures c.field-3.ensures
