-- Behind the last element only closes are written.
use Rattle.std.proofs.Common.{rules}
use Rattle.rebuilder.proofs.Tokens.{tokens_all}
use Rattle.rebuilder.proofs.write_tokens.Goals as goal

pub returns : goal.returns
returns c = search (rules, tokens_all)
