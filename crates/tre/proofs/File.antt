-- The two laws of the TRE file: what the reader accepts is what is written of an accepted document, and that reads back.
use Prim.Native.Nat.{ℕ, zero, suc, ◌-◌, ◌≤◌, ◌<◌}
use mathlib.Core.Bool.{true}
use mathlib.Core.List.{List, [], ◌∷◌, ◌++◌, append_assoc, append-nil}
use mathlib.Core.Path.{◌≡◌, refl, sym, ap, ◌∙◌}
use native.Mathlib.Nat.{sub-zero}
use native.Mathlib.Omega.{arith}
use lib.ListN.{length, get_or, length-append, length-drop, get_or-append}
use lib.Seq.{get_or-append_seam}
use Rattle.meaning.specs.declared.Graph.{Graph}
use Rattle.meaning.specs.declared.Element.{Element}
use Rattle.meaning.specs.Limits.{words}
use Rattle.meaning.specs.Graphs.{LegalGraph, child_kind}
use Rattle.meaning.specs.Documents.{document_node, node, view, parent_rule, edge_rule, Accepted}
use Rattle.meaning.proofs.Sets.{below_suc}
use Rattle.meaning.proofs.KindSets.{edge_types}
use Rattle.meaning.proofs.Views.{rule_first}
use Rattle.fields.specs.Read.{got}
use Rattle.fields.specs.Write.{Bytes, byte_of, header_of}
use Rattle.fields.proofs.Formats.{Reads, Takes, reads_bind, reads_header, reads_file, accepts_weaken, takes_bind, takes_first, takes_file}
use Rattle.tre.specs.Tre.{Open, nothing_open, pushed, popped, document_read, document_file, closes, open_of, tokens_of, document_bytes}
use Rattle.tre.proofs.Runs.{opens, shuts, Run, last, more, tokens_accept, tokens_read}
use Rattle.tre.proofs.Climbs.{Up, here, up, up_parent, closes_none, closes_one, up_least, closes_parent, rule_in, parent_less, rule_up, root_up}

-- the elements read so far are the first of es
module _ {es : List Element} (os rest : List Element) where
  node_before : es ≡ os ++ rest → (v : ℕ) → v ≤ length os → node os v ≡ node es v
  unfolding node
  node_before whole zero l = refl
  node_before whole (suc i) l = sym (get_or-append os rest document_node i l) ∙ ap (λ x. get_or x i document_node) (sym whole)

  node_next : {e : Element} → es ≡ os ++ (e ∷ rest) → node es (suc (length os)) ≡ e
  unfolding node
  node_next {e} whole = ap (λ x. get_or x (length os) document_node) whole ∙ get_or-append_seam os e rest document_node

longer : (os : List Element) (e : Element) → length (os ++ (e ∷ [])) ≡ suc (length os)
longer os e = omega (arith, length-append os (e ∷ []))

-- past its end a list has no text
texts_past : (es : List Element) → ((i : ℕ) → i < length es → (get_or es i document_node).text < words) → (i : ℕ) → (get_or es i document_node).text < words
texts_past [] h i = omega arith
texts_past (e ∷ es) h zero = h 0 (omega arith)
texts_past (e ∷ es) h (suc i) = texts_past es (λ j l. h (suc j) (omega arith)) i

-- What has been judged of an element.
record Ruled (g : Graph) (es : List Element) (i : ℕ) : Type 0 where
  parents : parent_rule (view es) i ≡ true
  edges : edge_rule g (view es) i ≡ true
  texts : (node es i).text < words
  less : (node es i).parent < i

-- a elements have been judged, and b is the innermost
record Inside (limit : ℕ) (g : Graph) (es : List Element) (a b : ℕ) : Type 0 where
  few : a ≤ limit
  ruled : (i : ℕ) → 0 < i → i ≤ a → Ruled g es i
  climbs : Up es a b
  begun : 0 < a → 0 < b

module _ (limit : ℕ) (g : Graph) (es : List Element) where
  prefix : {o : Open} {b : List ℕ} → Run limit g es o b → (rest : List Element) × (es ≡ o.elements ++ rest)
  unfolding pushed popped
  prefix (last (opens few typed edge small) z e) = absurd (omega arith)
  prefix (last {o} (shuts some) z e) = ([], sym e ∙ sym (append-nil o.elements))
  prefix (more {o} (opens {t} {x} few typed edge small) n r) =
      let (rest, e) = prefix r in
      (record { parent = o.inner; kind = t; text = x } ∷ rest, e ∙ append_assoc o.elements _ rest)
  prefix (more (shuts some) n r) = prefix r

  inside_parent : {a b : ℕ} → Inside limit g es a b → 0 < a → ((node es b).parent ≡ 0 → ⊥) → Inside limit g es a (node es b).parent
  inside_parent i l n =
      record {
        few = i.few;
        ruled = i.ruled;
        climbs = up_parent i.climbs (i.begun l);
        begun = λ _. omega arith;
      }

  inside_least : {a b : ℕ} → Inside limit g es a b → b ≤ a
  inside_least {a} i = up_least es a (λ j p l. (i.ruled j p l).less) i.climbs (omega arith)

  inside_next : {a b : ℕ} {e : Element} → Inside limit g es a b → a < limit → a < length es → node es (suc a) ≡ e
      → e.parent ≡ b → child_kind g (node es b).kind e.kind ≡ true → e.text < words → Inside limit g es (suc a) (suc a)
  unfolding edge_rule view
  inside_next {a} {b} i l w n p k x =
      record {
        few = l;
        ruled = λ j q m. below_suc (λ u. 0 < u → Ruled g es u) j (λ _. new) (λ u r. i.ruled j r (omega arith)) (omega arith) q;
        climbs = here;
        begun = λ q. q;
      }
    where
      new : Ruled g es (suc a)
      new =
          let q : (node es (suc a)).parent ≡ b = ap (λ d. d.parent) n ∙ p in
          record {
            parents = rule_in es a (λ j r m. (i.ruled j r m).less) a (omega arith) w (rw q i.climbs) (rw q i.begun);
            edges = rw (q, n) k;
            texts = rw n x;
            less = omega (arith, inside_least i);
          }

  -- the rules hold of all elements: they are accepted
  inside_all : {a b : ℕ} → Inside limit g es a b → 0 < a → a ≡ length es → Accepted limit g es
  unfolding node
  inside_all i l e =
      record {
        some_element = omega arith;
        most_elements = omega (arith, i.few);
        parents = λ j p m. (i.ruled j p (omega arith)).parents;
        edges = λ j p m. (i.ruled j p (omega arith)).edges;
        texts = texts;
      }
    where
      texts : (j : ℕ) → (node es j).text < words
      texts zero = omega arith
      texts (suc j) = texts_past es (λ u m. (i.ruled (suc u) (omega arith) (omega arith)).texts) j

  -- the closes from a to i, which have been read, and the bytes b are the tokens of what follows element a
  abbrev Written : ℕ → ℕ → List ℕ → Type 0
  Written a i b = closes (length es) es a i ++ b ≡ tokens_of es a (length es - a)

  written_opened : {a i : ℕ} {e : Element} (b : List ℕ) → a < length es → node es (suc a) ≡ e → e.parent ≡ i → Written (suc a) (suc a) b
      → Written a i (open_of e ++ b)
  unfolding tokens_of
  written_opened {a} b l n p h =
      let left : length es - a ≡ suc (length es - suc a) = omega arith in
      simp (left, n, p, ← h, closes_none (length es) es (suc a))

  written_closed : {a i : ℕ} (b : List ℕ) → Inside limit g es a i → 0 < a → a ≤ length es → Written a (node es i).parent b
      → Written a i (byte_of 0x02 ++ b)
  written_closed {a} {i} b s l w h =
      let closing = closes_parent es a (λ j p m. (s.ruled j p m).less) (length es) s.climbs w (omega arith) (s.begun l) in
      sym (append_assoc (closes (length es) es a i) (byte_of 0x02) b) ∙ ap (λ c. c ++ b) (sym closing) ∙ h

  run_out : {o : Open} {b : List ℕ} → Run limit g es o b → Inside limit g es (length o.elements) o.inner
      → Accepted limit g es × Written (length o.elements) o.inner b
  unfolding pushed popped tokens_of
  run_out (last (opens few typed edge small) z e) s = absurd (omega arith)
  run_out (last {o} (shuts some) z e) s =
      let len : length o.elements ≡ length es = ap length e in
      let none : length es - length o.elements ≡ 0 = omega arith in
      let parent : (node es o.inner).parent ≡ 0 = rw (← e) z in
      (inside_all s some len, written_closed [] s some (omega arith) (simp (append-nil, parent, none)))
  run_out (more {o} {b = b} (opens {t} {x} few typed edge small) n r) s =
      let new : Element = record { parent = o.inner; kind = t; text = x } in
      let (rest, h) = prefix r in
      let whole = h ∙ append_assoc o.elements (new ∷ []) rest in
      let next = node_next o.elements rest whole in
      let before = node_before o.elements (new ∷ rest) whole o.inner (inside_least s) in
      let within : length o.elements < length es = omega (arith, ap length whole, length-append o.elements (new ∷ rest)) in
      let len = longer o.elements new in
      let (accepted, written) = run_out r (rw len (inside_next s few within next refl (rw before at edge) small)) in
      (accepted, written_opened b within next refl (rw len at written))
  run_out (more {o} {b = b} (shuts some) n r) s =
      let (rest, whole) = prefix r in
      let parent = ap (λ e. e.parent) (node_before o.elements rest whole o.inner (inside_least s)) in
      let (accepted, written) = run_out r (rw parent (inside_parent s some (λ z. n (parent ∙ z)))) in
      (accepted, written_closed b s some (omega (arith, ap length whole, length-append o.elements rest)) (rw parent at written))

module _ (limit : ℕ) (g : Graph) (es : List Element) (accepted : Accepted limit g es) where
  less : (i : ℕ) → 0 < i → i ≤ length es → (node es i).parent < i
  less = parent_less limit g es accepted

  -- the closes from a lead to its ancestor i
  run_closes : (f : ℕ) (os rest : List Element) → es ≡ os ++ rest → {a i : ℕ} (b : List ℕ) → Up es a i → a ≤ f → a ≤ length os → (0 < a → 0 < i)
      → Run limit g es (record { elements = os; inner = i }) b → Run limit g es (record { elements = os; inner = a }) (closes f es a i ++ b)
  unfolding popped
  run_closes f os rest whole b (here {a}) k l m r = rw (closes_none f es a) r
  run_closes zero os rest whole b (up p u) k l m r = absurd (omega arith)
  run_closes (suc f) os rest whole b (up {a} {b = i} p u) k l m r =
      let within : length os ≤ length es = omega (arith, ap length whole, length-append os rest) in
      let d = less a p (omega arith) in
      let w = up_least es (length es) less u (omega arith) in
      let q = m p in
      let parent : (node os a).parent ≡ (node es a).parent = ap (λ e. e.parent) (node_before os rest whole a l) in
      let some : 0 < length os = omega arith in
      rw (closes_one f es a i (λ e. omega arith))
      (more {b = closes f es (node es a).parent i ++ b} (shuts some) (λ (z : (node os a).parent ≡ 0). omega arith)
      (rw parent (run_closes f os rest whole b u (omega arith) (omega arith) (λ _. q) r)))

  run_in : LegalGraph g → (rest os : List Element) → es ≡ os ++ rest
      → Run limit g es (record { elements = os; inner = length os }) (tokens_of es (length os) (length rest))
  unfolding tokens_of pushed popped edge_rule view
  run_in legal [] os whole =
      let e : os ≡ es = sym (whole ∙ append-nil os) in
      let some = accepted.some_element in
      let first : (node es 1).parent ≡ 0 = rule_first (view es) (accepted.parents 1 (omega arith) some) in
      let climbs = root_up limit g es accepted (length es) (length es) (omega arith) some (omega arith) in
      let closing = closes_parent es (length es) less (length es) climbs (omega arith) (omega arith) (omega arith) in
      rw (e, rw first at closing)
      (run_closes (length es) es [] (sym (append-nil es)) (byte_of 0x02) climbs (omega arith) (omega arith) (λ _. omega arith) (last (shuts some) first refl))
  run_in legal (e ∷ rest) os whole =
      let a : ℕ = length os in
      let within : a < length es = omega (arith, ap length whole, length-append os (e ∷ rest)) in
      let next = node_next os rest whole in
      let few : a < limit = omega (arith, accepted.most_elements) in
      let edge = accepted.edges (suc a) (omega arith) within in
      let (climbs, begun) = rule_up limit g es accepted a within in
      let least = up_least es (length es) less climbs (omega arith) in
      let before = node_before os (e ∷ rest) whole (node es (suc a)).parent least in
      run_closes (length es) os (e ∷ rest) whole _ climbs (omega arith) (omega arith) begun
      (more (opens few (edge_types g legal _ _ edge).1 (rw before edge) (accepted.texts (suc a))) (λ (z : suc a ≡ 0). omega arith)
      (rw next (rw (longer os e) at (run_in legal rest (os ++ (e ∷ [])) (whole ∙ sym (append_assoc os (e ∷ []) rest))))))

  reads_document : LegalGraph g → Reads (document_read limit g) (document_bytes es) es
  unfolding document_read document_bytes
  reads_document legal =
      reads_bind _ (reads_header 0x54 0x52 0x45 1 1 (omega arith) (omega arith))
      (record {
        reads = λ s at after h.
            (tokens_read limit g (length s) (run_in legal es [] refl)
            (omega (arith, ap length h, length-drop at s, length-append (tokens_of es 0 (length es)) after))).reads s at after h;
      })

takes_document : (limit : ℕ) (g : Graph) → Takes (document_read limit g) document_bytes (Accepted limit g)
unfolding document_read document_bytes
takes_document limit g =
    takes_bind (takes_first 0x54 0x52 0x45) λ _ _.
    record { accepts = λ {s} bs le h. (accepts_weaken (tokens_accept limit g (length s) nothing_open) whole).accepts bs le h }
  where
    start : (es : List Element) → Inside limit g es 0 0
    start es = record { few = omega arith; ruled = λ i p l. absurd (omega arith); climbs = here; begun = λ p. p }

    whole : (es : List Element) (b : List ℕ) → Run limit g es nothing_open b → (header_of 0x54 0x52 0x45 1 ++ b ≡ header_of 0x54 0x52 0x45 1 ++ tokens_of es 0 (length es)) × Accepted limit g es
    whole es b r =
        let (accepted, written) = run_out limit g es r (start es) in
        (ap (λ t. header_of 0x54 0x52 0x45 1 ++ t) (rw (closes_none (length es) es 0, sub-zero) at written), accepted)

pub document_read_lem : (limit : ℕ) (g : Graph) (s : List ℕ) → Bytes s → {es : List Element} {n : ℕ} → document_file limit g s 0 ≡ got es n
    → Accepted limit g es × (s ≡ document_bytes es)
unfolding document_file
document_read_lem limit g s bs h = let (e, accepted, _) = takes_file s (takes_document limit g) bs h in (accepted, e)

pub document_written : {limit : ℕ} {g : Graph} {es : List Element} → LegalGraph g → Accepted limit g es
    → document_file limit g (document_bytes es) 0 ≡ got es (length (document_bytes es))
unfolding document_file
document_written {limit} {g} {es} legal accepted = reads_file (reads_document limit g es accepted legal)
