-- What is written for a legal path or qualifier reads back, wherever it stands and its nodes are allowed.
use Prim.Native.Nat.{ℕ, zero, suc, ◌+◌, ◌-◌, ◌≤◌, ◌<◌}
use mathlib.Core.List.{List, [], ◌++◌}
use mathlib.Core.Path.{◌≡◌, refl}
use native.Mathlib.Omega.{arith}
use borrow.Author.Tests.{lt-ltb}
use Rattle.meaning.specs.declared.Reason.TheVariants.{Kind}
use Rattle.meaning.specs.Queries.{XPath, Qualifier, self, child, any_child, slash, slashes, union, filter, reached, text_is, is_not, both, either, LegalPath, LegalQualifier}
use Rattle.fields.specs.Read.{Reader, ◌>>=◌}
use Rattle.fields.specs.Write.{byte_of}
use Rattle.fields.proofs.Formats.{Reads, reads_bind, reads_last, reads_give, reads_judged, reads_byte, reads_word}
use Rattle.query.specs.Qry.{Sort, path, qualifier, Tree, Follows, leaf, field, one, two, codes, following, node_code, here, part, path_bytes, qualifier_bytes}
use Rattle.query.proofs.Parts.{node_count, bytes, Row, leaf_row, field_row, one_row, two_row, code_rows}

pub record Written (k : ℕ) (σ : Sort) (t : Tree σ) : Type 0 where
  pub reads_back : (f n l : ℕ) → l + node_count σ t ≡ n → n ≤ f → Reads (part k f σ n) (bytes σ t) (t, l)

reads_here : {A : Type 0} {f : ℕ → Reader A} {e : List ℕ} {x : A} → ((place : ℕ) → Reads (f place) e x) → Reads (here >>= f) e x
reads_here p = record { reads = λ s at. (p at).reads s at }

reads_code : (n c : ℕ) → 0 < n → Reads (node_code n) (byte_of c) c
unfolding node_code
reads_code n c l = rw (lt-ltb 0 n l) (reads_byte c)

module _ {k : ℕ} {σ : Sort} {c : ℕ} where
  -- behind its code, t has m nodes and the bytes e, and reading goes on as r says
  node_written : {r : Follows σ} {t : Tree σ} (m : ℕ) (e : List ℕ) → node_count σ t ≡ 1 + m → byte_of c ++ e ≡ bytes σ t → codes k σ c ≡ r
      → ((place f n l : ℕ) → l + m ≡ n → n ≤ f → Reads (following (part k f) place r n) e (t, l)) → Written k σ t
  unfolding part
  node_written {t = t} m e more same h F = record { reads_back = go }
    where
      go : (f n l : ℕ) → l + node_count σ t ≡ n → n ≤ f → Reads (part k f σ n) (bytes σ t) (t, l)
      go zero n l i le = absurd (omega arith)
      go (suc f) n l i le =
          rw (← same)
          (reads_here λ place. reads_bind _ (reads_code n c (omega arith)) (rw h (F place f (n - 1) l (omega arith) (omega arith))))

  leaf_written : {t : Tree σ} → Row k σ c (leaf t) → codes k σ c ≡ leaf t → Written k σ t
  leaf_written {t} (leaf_row more same _) h = node_written 0 [] more same h λ place f n l i le. let j : l ≡ n = omega arith in rw j (reads_give (t, n))

  field_written : {m : Reader ℕ} {g : ℕ → Tree σ} {e : List ℕ} {v : ℕ} → Row k σ c (field m g) → codes k σ c ≡ field m g
      → Reads m e v → byte_of c ++ e ≡ bytes σ (g v) → Written k σ (g v)
  field_written {g = g} {e} {v} (field_row more _ _) h M same =
      node_written 0 e (more v) same h λ place f n l i le. let j : l ≡ n = omega arith in rw j (reads_last _ M (reads_give (g v, n)))

  module _ {τ : Sort} {a : Tree τ} where
    one_written : {g : Tree τ → Tree σ} → Row k σ c (one τ g) → codes k σ c ≡ one τ g → Written k τ a → Written k σ (g a)
    one_written {g} (one_row R) h A =
        node_written (node_count τ a) (bytes τ a) (R a).0 (R a).1 h λ place f n l i le. reads_last _ (A.reads_back f n l i le) (reads_give (g a, l))

    two_written : {υ : Sort} {b : Tree υ} {g : Tree τ → Tree υ → Tree σ} → Row k σ c (two τ υ g) → codes k σ c ≡ two τ υ g
        → Written k τ a → Written k υ b → Written k σ (g a b)
    two_written {υ} {b} {g} (two_row R) h A B =
        node_written (node_count τ a + node_count υ b) (bytes τ a ++ bytes υ b) (omega (arith, (R a b).0)) (R a b).1 h λ place f n l i le.
        reads_bind _ (A.reads_back f n (l + node_count υ b) (omega arith) le)
        (reads_last _ (B.reads_back f (l + node_count υ b) l refl (omega arith)) (reads_give (g a b, l)))

mutual
  unfolding path_bytes qualifier_bytes LegalPath LegalQualifier

  pub path_written : (k : ℕ) (p : XPath) → LegalPath k p → Written k path p
  path_written k self h = leaf_written (code_rows k path 0x01) refl
  path_written k (child t) h = field_written (code_rows k path 0x02) refl (reads_judged _ Kind (reads_byte t) (lt-ltb t k h)) refl
  path_written k any_child h = leaf_written (code_rows k path 0x03) refl
  path_written k (slash p q) h = two_written (code_rows k path 0x04) refl (path_written k p h.0) (path_written k q h.1)
  path_written k (slashes p q) h = two_written (code_rows k path 0x05) refl (path_written k p h.0) (path_written k q h.1)
  path_written k (union p q) h = two_written (code_rows k path 0x06) refl (path_written k p h.0) (path_written k q h.1)
  path_written k (filter p q) h = two_written (code_rows k path 0x07) refl (path_written k p h.0) (qualifier_written k q h.1)

  pub qualifier_written : (k : ℕ) (q : Qualifier) → LegalQualifier k q → Written k qualifier q
  qualifier_written k (reached p) h = one_written (code_rows k qualifier 0x11) refl (path_written k p h)
  qualifier_written k (text_is c) h = field_written (code_rows k qualifier 0x12) refl (reads_word c) refl
  qualifier_written k (is_not q) h = one_written (code_rows k qualifier 0x13) refl (qualifier_written k q h)
  qualifier_written k (both q r) h = two_written (code_rows k qualifier 0x14) refl (qualifier_written k q h.0) (qualifier_written k r h.1)
  qualifier_written k (either q r) h = two_written (code_rows k qualifier 0x15) refl (qualifier_written k q h.0) (qualifier_written k r h.1)
