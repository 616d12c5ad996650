-- What is known of a query before its program is written.
use Rattle.std.specs.Prelude.{ℕ, ◌+◌, ◌*◌, ◌≤◌, ◌≡◌, List, length}
use Rattle.meaning.specs.declared.Graph.{Graph}
use Rattle.meaning.specs.Limits.{step_limit}
use Rattle.meaning.specs.Graphs.{LegalGraph}
use Rattle.meaning.specs.Queries.{XPath, LegalPath}
use Rattle.meaning.specs.Translation.{step_count}
use Rattle.fields.specs.Read.{got}
use Rattle.query.specs.Qry.{query_file, query_bytes}

-- it was accepted under a graph: it is legal, and the bytes are its file
pub record AcceptedQuery (g : Graph) (s : List ℕ) : Type 0 where
  pub graph : LegalGraph g
  pub query : XPath
  pub legal : LegalPath g.k query
  pub file : s ≡ query_bytes query
  pub left : ℕ
  pub end : ℕ
  pub reads : query_file g.k s 0 ≡ got (query, left) end

-- it has n steps, which are not too many, and there is room for them
pub record Translatable (g : Graph) (s : List ℕ) (n room : ℕ) : Type 0 where
  pub accepted : AcceptedQuery g s
  pub count : n ≡ step_count accepted.query
  pub few : n ≤ step_limit
  pub fits : 6 + 3 * n ≤ room
  pub short : length s ≤ 5 + 3 * n
