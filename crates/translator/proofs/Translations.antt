-- One law for each answer of the translator: the first refusal met, or the program in the buffer.
use Prim.Native.Nat.{ℕ, ◌+◌, ◌*◌, ◌≤◌, ◌<◌}
use Rattle.std.proofs.Common.{Ok}
use mathlib.Core.Path.{◌≡◌, refl, sym, ap, subst, ◌∙◌}
use mathlib.Core.List.{List, [], ◌++◌, append-nil}
use native.Mathlib.Omega.{arith}
use lib.ListN.{length, get_or, drop}
use mir.Syntax.{w8}
use mir.Val.{Fits}
use borrow.Author.Tests.{lt-leb}
use Rattle.meaning.specs.declared.Answer.{Answer}
use Rattle.meaning.specs.declared.Graph.{Graph}
use Rattle.meaning.specs.declared.Reason.TheVariants.{Steps, Room}
use Rattle.meaning.specs.declared.Refusal.{Refusal}
use Rattle.meaning.specs.Limits.{document, kinds, step_limit}
use Rattle.meaning.specs.Queries.{XPath}
use Rattle.meaning.specs.Translation as translation
use Rattle.meaning.specs.Translation.{translated, step_count}
use Rattle.meaning.proofs.Bits.{mask_single}
use Rattle.meaning.proofs.Counts.{translated_length}
use Rattle.fields.specs.Read.{got, refused, mapped}
use Rattle.fields.specs.Write.{byte_of, header_of}
use Rattle.query.specs.Qry.{query_file, path_bytes, query_bytes}
use Rattle.query.proofs.File.{query_read_lem}
use Rattle.rel.specs.Rel.{steps_bytes, program_bytes}
use Rattle.writing.specs.Lent.{Leaves, accepted, turned_away, over, lent}
use Rattle.writing.proofs.Puts.{over_nothing, over_more, over_length}
use Rattle.writing.proofs.Stored.{stored_none, stored_there}
use Rattle.files.specs.declared.Under.{Under}
use Rattle.files.specs.Inside.Opens.{Opens, OfQuery}
use Rattle.files.specs.Files.{query_under}
use Rattle.files.proofs.Handed.{under_out}
use Rattle.steps.specs.declared.Place.{Place}
use Rattle.translator.specs.Inside.Translated.{translated_query, translated_under}
use Rattle.translator.specs.Translate.{bounded_program, translation}
use Rattle.translator.specs.Inside.Count.{steps_in, CountedSteps}
use Rattle.descent.specs.Inside.Dues.{path, start, Due, Done}
use Rattle.translator.specs.Inside.Translatable.{AcceptedQuery, Translatable}
use Rattle.translator.proofs.Counting.{path_steps}
use Rattle.translator.proofs.Checked.{file_length, translated_stored}

module _ (gra qry : List ℕ) where
  pub query_away : (out : List ℕ) {r : Refusal} → query_under gra qry ≡ refused r → Leaves (translation gra qry out) (turned_away r) out
  unfolding translation lent
  query_away out h = rw h

  module _ {o : Under ℕ} (p : Opens (query_under gra qry) (Ok o) OfQuery) where
    read_under : (x : XPath × ℕ) × (n : ℕ) × (query_under gra qry ≡ got (o.graph, x) n) × (query_file o.graph.k qry 0 ≡ got x n)
    read_under =
        let (x, n, e, w) = p in
        let (m, graph, file) = under_out gra (λ g. query_file g.k qry 0) e in
        (x.1, n, e ∙ ap (λ g. got (g, x.1) n) w.graph, subst (λ g. query_file g.k qry 0 ≡ got x.1 n) w.graph file)

    pub query_accepted : ((i : ℕ) → Fits w8 (get_or qry i 0)) → AcceptedQuery o.graph qry
    query_accepted bytes =
        let (_, _, _, w) = p in
        let (x, n, _, e) = read_under in
        let (legal, _, same) = query_read_lem o.graph.k (λ i. (bytes i).fits) e in
        record { graph = w.legal; query = x.0; legal = legal; file = same; left = x.1; end = n; reads = e }

    pub query_on : (out : List ℕ) {a : Answer} {new : List ℕ} → Leaves (translated_under o.graph qry out) a new → Leaves (translation gra qry out) a new
    unfolding translation translated_under translated_query
    query_on out l = let (x, n, under, file) = read_under in rw under (rw file at l)

-- An accepted query.
module _ {g : Graph} {s : List ℕ} (A : AcceptedQuery g s) where
  behind_header : drop 5 s ≡ path_bytes A.query ++ []
  unfolding query_bytes
  behind_header = ap (drop 5) A.file ∙ sym (append-nil (path_bytes A.query))

  count_is : steps_in 0 (drop 5 s) ≡ step_count A.query
  unfolding step_count steps_in
  count_is = ap (steps_in 0) behind_header ∙ path_steps A.query [] ∙ omega arith

  pub too_many : (out : List ℕ) → step_limit < steps_in 0 (drop 5 s) → Leaves (translated_under g s out) (turned_away (record { reason = Steps })) out
  unfolding translated_under translated_query bounded_program mapped lent
  too_many out l = rw (A.reads, lt-leb (step_count A.query) step_limit (omega (arith, l, count_is)))

  module _ {n : ℕ} (c : CountedSteps s n) where
    pub no_room : (out : List ℕ) → length out < 6 + 3 * n → Leaves (translated_under g s out) (turned_away (record { reason = Room })) out
    no_room out short =
        let p = A.query in
        translated_stored g s out A.reads (omega (arith, c.all, c.few, count_is))
        ∙ stored_none (program_bytes (translated g p)) out (omega (arith, c.all, count_is, file_length g p))

    pub ready : {m : ℕ} → 6 + 3 * n ≤ m → Translatable g s n m
    ready f = record { accepted = A; count = c.all ∙ count_is; few = c.few; fits = f; short = c.short }

module _ {g : Graph} {s : List ℕ} (old : List ℕ) {y : List ℕ} {n : ℕ} (R : Translatable g s n (length old)) (headed : y ≡ over 0 (header_of 0x52 0x45 0x4C 1 ++ byte_of n) old) where
  as_long : length y ≡ length old
  as_long = ap length headed ∙ over_length 0 (header_of 0x52 0x45 0x4C 1 ++ byte_of n) old (omega (arith, R.fits))

  pub start_due : Due g s (length y) start
  unfolding step_count
  start_due =
      let A = R.accepted in
      record {
        graph = A.graph;
        short = omega (arith, R.short, R.few);
        kinds = omega arith;
        part = path A.query A.legal;
        rest = [];
        stands = behind_header A;
        enough = record { few = omega (arith, R.count, R.few); fits = omega (arith, R.count, R.fits, as_long) };
      }

  module _ {new : List ℕ} {to : Place} (D : Done g s y new start to) where
    -- the steps stand behind the header and their number
    file_there : new ≡ over 0 (program_bytes (translated g R.accepted.query)) old
    unfolding start_due translated steps_bytes program_bytes
    file_there =
        let os = translated g R.accepted.query in
        let H = (D.done start_due).writes.writes y [] (record { header = omega (arith, R.fits, as_long); there = sym (over_nothing 6 y); count = refl }) in
        let steps : new ≡ over 6 (steps_bytes os) y = H.there ∙ ap (λ C. over 6 (steps_bytes (translation.path g C R.accepted.query [])) y) (sym (mask_single kinds document (omega arith))) in
        let count : n ≡ length os = R.count ∙ sym (translated_length g R.accepted.query) in
        steps ∙ ap (λ l. over 6 (steps_bytes os) l) headed ∙ over_more 0 (header_of 0x52 0x45 0x4C 1 ++ byte_of n) (steps_bytes os) old
        ∙ ap (λ k. over 0 ((header_of 0x52 0x45 0x4C 1 ++ byte_of k) ++ steps_bytes os) old) count

    pub written_all : Leaves (translated_under g s old) (accepted (6 + 3 * n)) new
    written_all =
        let p = R.accepted.query in
        let long : 6 + 3 * n ≡ length (program_bytes (translated g p)) = omega (arith, R.count, file_length g p) in
        translated_stored g s old R.accepted.reads (omega (arith, R.count, R.few))
        ∙ stored_there (program_bytes (translated g p)) old (omega (arith, long, R.fits)) ∙ rw (long, file_there)
