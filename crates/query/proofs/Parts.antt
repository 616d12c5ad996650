-- What a reader of parts accepts: the nodes that it takes of those allowed, and the bytes, are those of what it reads, which is legal.
use Prim.Native.Nat.{ℕ, zero, suc, ◌+◌, ◌-◌, ◌<◌}
use mathlib.Core.List.{List, [], ◌++◌, append-nil}
use mathlib.Core.Path.{◌≡◌, refl}
use mathlib.Core.Bool.{Bool, true, false}
use native.Mathlib.Nat.{add-zero}
use native.Mathlib.Omega.{arith}
use lib.Dec.{ltb, eqb}
use lib.ListN.{length}
use borrow.Author.Tests.{ltb-true, eqb-true}
use Rattle.meaning.specs.declared.Reason.TheVariants.{Bound, Kind}
use Rattle.meaning.specs.declared.Refusal.{Refusal}
use Rattle.meaning.specs.Limits.{query_limit}
use Rattle.meaning.specs.Queries.{path_count, qualifier_count, LegalPath, LegalQualifier}
use Rattle.fields.specs.Read.{Read, Reader, ◌>>=◌, got, refused, bind, pick, header, end}
use Rattle.fields.specs.Write.{byte_of}
use Rattle.fields.proofs.Formats.{Accepts, Takes, accepts_bind, takes_bind, accepts_give, accepts_refuse, accepts_pick, takes_judged, takes_byte, takes_word, takes_weaken, refused_out}
use Rattle.fields.proofs.Reasons.{OfFile, of_judged, of_byte, of_word}
use Rattle.query.specs.Qry.{Sort, path, qualifier, Tree, PartReader, Follows, leaf, field, one, two, unknown, codes, following, node_code, here, part, query_file, path_bytes, qualifier_bytes}

-- how many nodes a part has, its bytes, and which are legal
abbrev pub node_count : (σ : Sort) → Tree σ → ℕ
node_count path p = path_count 0 0 p
node_count qualifier q = qualifier_count 0 0 q

abbrev pub bytes : (σ : Sort) → Tree σ → List ℕ
bytes path p = path_bytes p
bytes qualifier q = qualifier_bytes q

abbrev pub Legal : ℕ → (σ : Sort) → Tree σ → Type 0
Legal k path p = LegalPath k p
Legal k qualifier q = LegalQualifier k q

-- what was read has the nodes that are not left of n, one at least
pub data Counted (σ : Sort) (n : ℕ) : Read (Tree σ × ℕ) → Type 0 where
  ended : {r : Refusal} → Counted σ n (refused r)
  counted : {p : Tree σ × ℕ} {at : ℕ} → (p.1 < n) × (p.1 + node_count σ p.0 ≡ n) → Counted σ n (got p at)

-- m reads parts whose first bytes were read before: the code of each node that was taken
pub record Right (k : ℕ) (σ : Sort) (before : List ℕ) (m : PartReader σ) : Type 0 where
  pub counts : (n : ℕ) (s : List ℕ) (at : ℕ) → Counted σ (n + length before) (m n s at)
  pub accepts : (n : ℕ) → Accepts (m n) (λ p b. (before ++ b ≡ bytes σ p.0) × Legal k σ p.0)

module _ {σ : Sort} {n : ℕ} where
  after_part : {τ : Sort} {m : ℕ} {e : Read (Tree τ × ℕ)} (g : Tree τ × ℕ → ℕ → Read (Tree σ × ℕ))
      → Counted τ m e → ((p : Tree τ × ℕ) (at : ℕ) → (p.1 < m) × (p.1 + node_count τ p.0 ≡ m) → Counted σ n (g p at)) → Counted σ n (bind e g)
  after_part g ended f = ended
  after_part g (counted h) f = f _ _ h

  after_field : {A : Type 0} (e : Read A) (g : A → ℕ → Read (Tree σ × ℕ)) → ((a : A) (at : ℕ) → Counted σ n (g a at)) → Counted σ n (bind e g)
  after_field (got a at) g f = f a at
  after_field (refused r) g f = ended

-- a line of the table of codes: what is made has one node more than its parts, the code before their bytes, and is legal where they are;
-- what turns its field away has a number up to 10
pub data Row (k : ℕ) (σ : Sort) (c : ℕ) : Follows σ → Type 0 where
  leaf_row : {t : Tree σ} → node_count σ t ≡ 1 → byte_of c ≡ bytes σ t → Legal k σ t → Row k σ c (leaf t)
  field_row : {m : Reader ℕ} {f : ℕ → Tree σ}
      → ((v : ℕ) → node_count σ (f v) ≡ 1) → Accepts m (λ v b. (byte_of c ++ b ≡ bytes σ (f v)) × Legal k σ (f v)) → OfFile m → Row k σ c (field m f)
  one_row : {τ : Sort} {f : Tree τ → Tree σ}
      → ((a : Tree τ) → (node_count σ (f a) ≡ 1 + node_count τ a) × (byte_of c ++ bytes τ a ≡ bytes σ (f a)) × (Legal k τ a → Legal k σ (f a))) → Row k σ c (one τ f)
  two_row : {τ υ : Sort} {f : Tree τ → Tree υ → Tree σ}
      → ((a : Tree τ) (b : Tree υ)
      → (node_count σ (f a b) ≡ 1 + node_count τ a + node_count υ b) × (byte_of c ++ bytes τ a ++ bytes υ b ≡ bytes σ (f a b)) × (Legal k τ a → Legal k υ b → Legal k σ (f a b)))
      → Row k σ c (two τ υ f)
  no_row : Row k σ c unknown

row : {k : ℕ} {σ : Sort} {c : ℕ} (w : ℕ) {r t : Follows σ} → Row k σ w r → Row k σ c t → Row k σ c (pick (eqb c w) r t)
row {k} {σ} {c} w {r} {t} R T = go (eqb c w) refl
  where
    go : (b : Bool) → eqb c w ≡ b → Row k σ c (pick b r t)
    go true e = rw (eqb-true c w e) R
    go false e = T

pub code_rows : (k : ℕ) (σ : Sort) (c : ℕ) → Row k σ c (codes k σ c)
unfolding path_count qualifier_count path_bytes qualifier_bytes LegalPath LegalQualifier
code_rows k path c =
    row 0x01 (leaf_row refl refl tt)
    (row 0x02 (field_row (λ v. refl) (takes_weaken (takes_judged _ Kind takes_byte) λ t l. (refl, ltb-true t k l.1)) (of_judged Kind (omega arith) _ of_byte))
    (row 0x03 (leaf_row refl refl tt)
    (row 0x04 (two_row λ a b. (refl, refl, λ h i. (h, i)))
    (row 0x05 (two_row λ a b. (refl, refl, λ h i. (h, i)))
    (row 0x06 (two_row λ a b. (refl, refl, λ h i. (h, i)))
    (row 0x07 (two_row λ a b. (refl, refl, λ h i. (h, i)))
    no_row))))))
code_rows k qualifier c =
    row 0x11 (one_row λ a. (refl, refl, λ h. h))
    (row 0x12 (field_row (λ v. refl) (takes_weaken takes_word λ t l. (refl, l)) of_word)
    (row 0x13 (one_row λ a. (refl, refl, λ h. h))
    (row 0x14 (two_row λ a b. (refl, refl, λ h i. (h, i)))
    (row 0x15 (two_row λ a b. (refl, refl, λ h i. (h, i)))
    no_row))))

following_right : {k : ℕ} {σ : Sort} {c : ℕ} {parts : (τ : Sort) → PartReader τ} {r : Follows σ}
    → ((τ : Sort) → Right k τ [] (parts τ)) → (place : ℕ) → Row k σ c r → Right k σ (byte_of c) (following parts place r)
following_right P place (leaf_row {t} h e l) = record { counts = λ n s at. counted {p = (t, n)} (omega arith); accepts = λ n. accepts_give (e, l) }
following_right P place (field_row {m} {f} h A _) = record {
  counts = λ n s at. after_field (m s at) _ λ v i. counted {p = (f v, n)} (omega (arith, h v));
  accepts = λ n. accepts_bind A λ v b e. accepts_give (rw (append-nil b) e.0, e.1);
}
following_right P place (one_row {τ} {f} h) = record {
  counts = λ n s at. after_part _ ((P τ).counts n s at) λ a i e. counted {p = (f a.0, a.1)} (omega (arith, (h a.0).0));
  accepts = λ n. accepts_bind ((P τ).accepts n) λ a b e. let (_, same, legal) = h a.0 in accepts_give (rw (append-nil b, e.0) same, legal e.1);
}
following_right P place (two_row {τ} {υ} {f} h) = record {
  counts = λ n s at. after_part _ ((P τ).counts n s at) λ a i d. after_part _ ((P υ).counts a.1 s i) λ b j e.
      counted {p = (f a.0 b.0, b.1)} (omega (arith, (h a.0 b.0).0));
  accepts = λ n. accepts_bind ((P τ).accepts n) λ a u d. accepts_bind ((P υ).accepts a.1) λ b v e.
      let (_, same, legal) = h a.0 b.0 in accepts_give (rw (append-nil v, d.0, e.0) same, legal d.1 e.1);
}
following_right P place no_row = record { counts = λ n s at. ended; accepts = λ n. record { accepts = λ bs le h. refused_out h } }

takes_code : (n : ℕ) → Takes (node_code n) byte_of (λ c. c < 256)
unfolding node_code
takes_code n = accepts_pick (ltb 0 n) (λ _. takes_byte) (λ _. accepts_refuse Bound)

-- the place is known before anything is read
accepts_here : {A : Type 0} {f : ℕ → Reader A} {Q : A → List ℕ → Type 0} → ((place : ℕ) → Accepts (f place) Q) → Accepts (here >>= f) Q
accepts_here p = record { accepts = λ {at = at} bs le h. (p at).accepts bs le h }

node_right : {k : ℕ} {σ : Sort} (m : ℕ → ℕ → PartReader σ) → ((place c : ℕ) → Right k σ (byte_of c) (m place c))
    → Right k σ [] (λ n. here >>= λ place. node_code n >>= λ c. m place c (n - 1))
unfolding node_code
node_right {σ = σ} m R = record {
  counts = λ n s at. elim n as (λ n. Counted σ (n + length {A = ℕ} []) ((here >>= λ place. node_code n >>= λ c. m place c (n - 1)) s at)) [ zero ↦ ended | suc n ↦ after_field (node_code (suc n) s at) _ λ c i. rw (one_taken n) ((R at c).counts (suc n - 1) s i) ];
  accepts = λ n. accepts_here λ place. takes_bind (takes_code n) λ c _. (R place c).accepts (n - 1);
}
  where
    one_taken : (n : ℕ) → suc n + 0 ≡ suc n - 1 + 1
    one_taken n = omega arith

pub part_right : (k f : ℕ) (σ : Sort) → Right k σ [] (part k f σ)
unfolding part
part_right k zero σ = record { counts = λ n s at. ended; accepts = λ n. accepts_refuse Bound }
part_right k (suc f) σ = node_right _ λ place c. following_right (part_right k f) place (code_rows k σ c)

pub part_counted : (k f : ℕ) (σ : Sort) (n : ℕ) (s : List ℕ) (at : ℕ) → Counted σ n (part k f σ n s at)
part_counted k f σ n s at = rw add-zero at ((part_right k f σ).counts n s at)

pub query_counted : (k : ℕ) (s : List ℕ) → Counted path query_limit (query_file k s 0)
unfolding query_file
query_counted k s =
    after_part _ (after_field (header 0x51 0x52 0x59 1 s 0) _ λ _ i. part_counted k query_limit path query_limit s i) λ p j h.
    after_field (end s j) _ λ _ e. counted {p = p} h
