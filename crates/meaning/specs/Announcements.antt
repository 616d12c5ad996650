-- The pairs of kinds that each step is announced to join, from the graph alone.
use Rattle.std.specs.Prelude.{not, ◌&&◌, List, [], eqb}
use Rattle.meaning.specs.declared.Graph.{Graph}
use Rattle.meaning.specs.declared.Operation.{Operation}
use Rattle.meaning.specs.declared.Operation.TheVariants.{Table, Itself, Text, Join, Union, Closure, Has, Diff, Both}
use Rattle.meaning.specs.Limits.{kinds, document}
use Rattle.meaning.specs.Sets.{bit}
use Rattle.meaning.specs.Relations.{Relation, join, unite, has, intersection, closure, at}
use Rattle.meaning.specs.Graphs.{child_kind, live}
use Rattle.meaning.specs.Documents.{is_text}
use Rattle.meaning.specs.Operations.{results}

-- the pairs of an operation, from those announced so far
unfoldable pub pairs : Graph → List Relation → Operation → Relation
pairs g ps (Table m) A B = live g A && (child_kind g A B && bit m B)
pairs g ps Itself A B = eqb A B && live g A
pairs g ps (Text c) A B = eqb A B && (is_text c && (live g A && not (eqb A document)))
pairs g ps (Join a b) A B = join kinds (at ps a) (at ps b) A B
pairs g ps (Union a b) A B = unite (at ps a) (at ps b) A B
pairs g ps (Closure a) A B = closure kinds (at ps a) A B
pairs g ps (Has a) A B = has kinds (at ps a) A B
pairs g ps (Diff a b) A B = at ps a A B
pairs g ps (Both a b) A B = intersection (at ps a) (at ps b) A B

-- what is announced for each step of a program; past the end it is nothing
unfoldable pub announced : Graph → List Operation → List Relation
announced g os = results (pairs g) [] os
