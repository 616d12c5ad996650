-- What a query asks for over accepted tables: its program, where its steps are few.
use Prim.Native.Nat.{ℕ, ◌-◌, ◌≤◌, ◌<◌}
use mathlib.Core.Path.{◌≡◌, refl, sym, ap, ◌∙◌}
use mathlib.Core.Bool.{Bool, true, false}
use mathlib.Core.List.{List}
use native.Mathlib.Omega.{arith}
use lib.Dec.{leb}
use lib.ListN.{length}
use borrow.Author.Tests.{le-leb, lt-leb, leb-true, leb-false}
use Rattle.meaning.specs.declared.Element.{Element}
use Rattle.meaning.specs.declared.Graph.{Graph}
use Rattle.meaning.specs.declared.Reason.TheVariants.{Steps}
use Rattle.meaning.specs.Limits.{element_limit, query_limit, step_limit}
use Rattle.meaning.specs.Documents.{view}
use Rattle.meaning.specs.Queries.{XPath, query_nodes}
use Rattle.meaning.specs.Translation.{translated, step_count}
use Rattle.fields.specs.Read.{got, refused, mapped}
use Rattle.edg.specs.Edg.{tables_file}
use Rattle.query.specs.Qry.{query_file}
use Rattle.files.specs.Files.{followed_by, tables_then_query}
use Rattle.files.proofs.Handed.{under_got, then_got}
use Rattle.rooms.specs.Run.{Ran}
use Rattle.translator.specs.Translate.{bounded_program}
use Rattle.trammelbud.specs.Calls.{Asked, asked, asked_or}
use Rattle.demands.specs.Demands.{GraphFile, TablesFile, QueryFile}
use Rattle.demands.proofs.Readings.{graph_got, tables_got, query_got}

-- the view of the elements, the path, and its program
abbrev pub asks : Graph → List Element → XPath → Asked
asks g es p = record { view = view es; path = p; program = translated g p }

module _ {gra : List ℕ} {g : Graph} (graph : GraphFile g gra) {edg qry : List ℕ} {es : List Element} {p : XPath} (tables : TablesFile g es edg) (query : QueryFile g p qry) where
  both_read : tables_then_query gra edg qry ≡ got (g, (es, (p, query_limit - query_nodes p))) (length qry)
  both_read =
      under_got gra (λ g. followed_by (tables_file element_limit g edg 0) (query_file g.k qry 0)) (graph_got graph)
      (then_got (tables_file element_limit g edg 0) (query_file g.k qry 0) (tables_got graph.legal tables) (query_got query))

  pub few_asked : step_count p ≤ step_limit → asked gra edg qry ≡ got (asks g es p) (length qry)
  unfolding asked bounded_program mapped
  few_asked few = rw (both_read, le-leb (step_count p) step_limit few)

  many_asked : step_limit < step_count p → asked gra edg qry ≡ refused (record { reason = Steps })
  unfolding asked bounded_program mapped
  many_asked many = rw (both_read, lt-leb (step_count p) step_limit many)

  -- a call that accepts was asked so
  pub was_asked : (f : Asked → List ℕ → List ℕ → Ran) {out work : List ℕ} → (asked_or f (asked gra edg qry) out work).answer.number ≡ 0 → asked_or f (asked gra edg qry) out work ≡ f (asks g es p) out work
  unfolding asked_or
  was_asked f {out} {work} h = by_count (leb (step_count p) step_limit) refl
    where
      by_count : (c : Bool) → leb (step_count p) step_limit ≡ c → asked_or f (asked gra edg qry) out work ≡ f (asks g es p) out work
      by_count true e = ap (λ a. asked_or f a out work) (few_asked (leb-true (step_count p) step_limit e))
      by_count false e = absurd (omega (arith, sym (ap (λ a. (asked_or f a out work).answer.number) (many_asked (omega (arith, leb-false (step_count p) step_limit e)))) ∙ h))
