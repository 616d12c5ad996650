-- The listing of a program's nodes: one law for each return, and for what the writer asks.
use Prim.Native.Nat.{ℕ, zero, suc, ◌+◌, ◌*◌, ◌≤◌, ◌<◌}
use mathlib.Core.Path.{◌≡◌, refl, sym, ap, ◌∙◌}
use mathlib.Core.Bool.{Bool, true, false}
use mathlib.Core.List.{List}
use native.Mathlib.Omega.{arith}
use lib.Dec.{leb}
use lib.ListN.{length, get_or, take, replicate, length-replicate, get_or-eq_default}
use borrow.Author.Tests.{le-leb, lt-leb, lt-ltb, leb-true, leb-false}
use Rattle.meaning.specs.declared.Element.{Element}
use Rattle.meaning.proofs.Tests.{and_in}
use Rattle.meaning.specs.declared.Answer.{Answer}
use Rattle.meaning.specs.declared.Program.{Program}
use Rattle.meaning.specs.declared.Reason.TheVariants.{Room}
use Rattle.meaning.specs.Limits.{small, words, room_bytes, types}
use Rattle.meaning.specs.Documents.{view, node, is_element, document_node}
use Rattle.meaning.specs.Operations.{answer}
use Rattle.meaning.specs.Inside.Records.{operations_in}
use Rattle.writing.specs.Lent.{accepted, turned_away, over}
use Rattle.writing.specs.Inside.Put.{Put}
use Rattle.writing.proofs.Puts.{over_front, over_length}
use Rattle.rooms.specs.Layout.{work_byte, overwritten}
use Rattle.rooms.specs.Inside.FitToRun.{FitToRun}
use Rattle.rooms.specs.Run.{Ran, Gives, performed}
use Rattle.runner.proofs.Theorems.{performed_given, few_nodes, nodes_below}
use Rattle.text.specs.Inside.Listable.{Listable}
use Rattle.text.specs.Listing.{listing, listing_room}
use Rattle.text.proofs.LineLaws.{listing_most}
use Rattle.trammelbud.specs.Calls.{lists}

-- the kind of every number has two digits: past the elements it is the document node's
pub kinds_small : (es : List Element) → ((w : ℕ) → is_element (view es) w ≡ true → (view es).kind w < types) → (v : ℕ) → (view es).kind v < 100
unfolding view is_element node
kinds_small es kinds zero = omega arith
kinds_small es kinds (suc i) = go (leb (suc i) (length es)) refl
  where
    go : (b : Bool) → leb (suc i) (length es) ≡ b → (get_or es i document_node).kind < 100
    go true e = omega (arith, kinds (suc i) (and_in e (lt-ltb 0 (suc i) (omega arith))))
    go false e = rw (get_or-eq_default es document_node {n = i} (omega (arith, leb-false (suc i) (length es) e))) (omega arith)

module _ {es : List Element} {program : Program} (r : FitToRun es program × ((v : ℕ) → (view es).text v < words)) where
  abbrev nodes : List ℕ
  nodes = answer (view es) (operations_in program)

  size_is : (view es).size ≡ suc (length es)
  unfolding view
  size_is = refl

  steps : program.count ≡ length (operations_in program)
  steps = sym r.0.whole

  -- the buffer for the text is too short
  pub list_short : (out work : List ℕ) {a : Answer} → length out < 13 * (length es + 2) → a ≡ turned_away (record { reason = Room })
      → Gives (lists (view es) nodes (operations_in program) out work) a out work
  list_short out work l e = let short = lt-leb (listing_room (view es).size) (length out) (omega (arith, size_is)) in rw (short, e)

  -- The program was run, and its nodes stand in a buffer of their own.
  module _ (out work : List ℕ) (room : 13 * (length es + 2) ≤ length out) {ran : Answer} {found work' : List ℕ} (g : Gives (performed (view es) (operations_in program) (replicate 128 0) work) ran found work') where
    fits : leb (view es).size (length (replicate {A = ℕ} 128 0)) ≡ true
    fits = le-leb (view es).size (length (replicate {A = ℕ} 128 0)) (omega (arith, size_is, r.0.nodes.few, length-replicate {A = ℕ} 128 0))

    text_fits : leb (listing_room (view es).size) (length out) ≡ true
    text_fits = le-leb (listing_room (view es).size) (length out) (omega (arith, size_is))

    by_work : {P : Type 0} → (room_bytes small.row * length (operations_in program) ≤ length work → P) → (length work < room_bytes small.row * length (operations_in program) → P) → P
    by_work {P} given lacking = go (leb (room_bytes small.row * length (operations_in program)) (length work)) refl
      where
        go : (b : Bool) → leb (room_bytes small.row * length (operations_in program)) (length work) ≡ b → P
        go true e = given (leb-true _ _ e)
        go false e = lacking (leb-false _ _ e)

    -- the work area was too short
    away : length work < room_bytes small.row * length (operations_in program) → ◌≡◌ {A = Ran} (record { answer = ran; out = found; work = work' }) (record { answer = turned_away (record { reason = Room }); out = replicate 128 0; work = work })
    unfolding performed
    away l = sym g ∙ let no_room = lt-leb (room_bytes small.row * length (operations_in program)) (length work) l in rw (fits, no_room)

    whole : room_bytes small.row * length (operations_in program) ≤ length work
        → ◌≡◌ {A = Ran} (record { answer = ran; out = found; work = work' })
        (record { answer = accepted (length nodes); out = over 0 nodes (replicate 128 0); work = overwritten (work_byte small.row (view es) (operations_in program)) (room_bytes small.row * length (operations_in program)) work })
    whole l = sym g ∙ performed_given (view es) (operations_in program) (record { for_nodes = leb-true _ _ fits; for_steps = l })

    pub list_refused : (ran.number ≡ 0 → ⊥) → Gives (lists (view es) nodes (operations_in program) out work) ran out work'
    list_refused not-zero =
        by_work (λ l. absurd (not-zero (ap (λ x. x.answer.number) (whole l))))
        λ l. let no_room = lt-leb (room_bytes small.row * length (operations_in program)) (length work) l in
        rw (text_fits, no_room, ap (λ x. x.answer) (away l), ap (λ x. x.work) (away l))

    module _ (zero : ran.number ≡ 0) where
      enough : room_bytes small.row * length (operations_in program) ≤ length work
      enough = by_work (λ l. l) λ l. absurd (omega (arith, zero, ap (λ x. x.answer.number) (away l)))

      counted : ran.count ≡ length nodes
      counted = ap (λ x. x.answer.count) (whole enough)

      there : found ≡ over 0 nodes (replicate 128 0)
      there = ap (λ x. x.out) (whole enough)

      few : length nodes ≤ suc (length es)
      few = omega (arith, few_nodes (view es) (operations_in program), size_is)

      taken : take ran.count found ≡ nodes
      taken = rw (counted, there) (over_front nodes (replicate 128 0))

      kind_small : (v : ℕ) → (view es).kind v < 100
      kind_small v = kinds_small es r.0.nodes.kinds v

      pub list_inside : ran.count ≤ length found
      list_inside =
          let long = over_length 0 nodes (replicate 128 0) (omega (arith, few, r.0.nodes.few, length-replicate {A = ℕ} 128 0)) in
          omega (arith, ap length there, long, counted, few, r.0.nodes.few, length-replicate {A = ℕ} 128 0)

      text_most : length (listing (view es) nodes) ≤ 13 * (length es + 2)
      text_most =
          let most = listing_most (view es) (omega (arith, size_is, r.0.nodes.few)) kind_small r.1 nodes (nodes_below (view es) (operations_in program)) (few_nodes (view es) (operations_in program)) in
          omega (arith, most, size_is)

      pub list_listable : Listable (view es) (take ran.count found) out
      list_listable = record { most = rw taken (omega (arith, few, r.0.nodes.few)); room = rw taken (omega (arith, text_most)) }

      module _ {next : ℕ} {new : List ℕ} (put : Put 0 (listing (view es) (take ran.count found)) out new next) where
        text_is_lem : Put 0 (listing (view es) nodes) out new next
        text_is_lem = rw taken at put

        pub list_small : next < words
        list_small = omega (arith, text_is_lem.behind, text_most, r.0.nodes.few)

        pub list_all : Gives (lists (view es) nodes (operations_in program) out work) (accepted next) new work'
        list_all =
            let steps-fit = le-leb (room_bytes small.row * length (operations_in program)) (length work) enough in
            let length-is : next ≡ length (listing (view es) nodes) = text_is_lem.behind ∙ omega arith in
            rw (text_fits, steps-fit, length-is, text_is_lem.there, ap (λ x. x.work) (whole enough))
