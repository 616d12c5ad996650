-- How many nodes are left, as the readers' code counts them: behind a node's code, what its part takes.
use Prim.Native.Nat.{ℕ, zero, suc, ◌-◌, ◌≤◌, ◌<◌}
use mathlib.Core.List.{List}
use mathlib.Core.Path.{◌≡◌, refl, sym, ap, ◌∙◌}
use native.Mathlib.Omega.{arith}
use Rattle.std.proofs.Common.{◌⊎◌}
use Rattle.meaning.specs.declared.Reason.TheVariants.{Code}
use Rattle.meaning.specs.Limits.{query_limit}
use Rattle.meaning.specs.Queries.{XPath}
use Rattle.fields.specs.Inside.Outcomes.{file_of}
use Rattle.fields.specs.Read.{Read, Reader, got, refused, bind, mapped, refusal_of, give, refuse, ◌>>=◌, ◌>>◌, header, end}
use Rattle.fields.proofs.Formats.{refused_out}
use Rattle.query.specs.Qry.{Sort, path, qualifier, Tree, PartReader, Follows, leaf, field, one, two, unknown, codes, following, node_code, part, query_file}
use Rattle.query.specs.Inside.PartsRead.{left_of, part_left}
use Rattle.query.proofs.Parts.{Counted, counted, ended, part_counted}

-- what is left behind what follows a code at a place, where n nodes are allowed behind the code
abbrev pub follow_left : ℕ → ℕ → {σ : Sort} → Follows σ → ℕ → Reader ℕ
follow_left k place (leaf t) n = give n
follow_left k place (field m f) n = m >> give n
follow_left k place (one τ f) n = part_left k τ n
follow_left k place (two τ υ f) n = part_left k τ n >>= part_left k υ
follow_left k place unknown n = λ s _. refuse Code s place

left_fewer : {σ : Sort} {n : ℕ} {e : Read (Tree σ × ℕ)} {l at : ℕ} → Counted σ n e → left_of e ≡ got l at → l < n
left_fewer {l = l} (counted {p} h) q = let i : p.1 ≡ l = cc in omega arith
left_fewer ended q = refused_out q

part_fewer : (k : ℕ) (σ : Sort) (n : ℕ) (s : List ℕ) (at : ℕ) {l next : ℕ} → part_left k σ n s at ≡ got l next → l < n
unfolding part_left
part_fewer k σ n s at h = left_fewer (part_counted k n σ n s at) h

-- what is left behind a field and what follows it
behind_field : {A : Type 0} (e : Read ℕ) (m : ℕ → ℕ → Read (A × ℕ)) (l : ℕ → ℕ → Read ℕ) → ((v at : ℕ) → left_of (m v at) ≡ l v at) → left_of (bind e m) ≡ bind e l
behind_field (got v at) m l h = h v at
behind_field (refused r) m l h = refl

-- what is left behind a part and what follows it
behind_part : {A B : Type 0} (e : Read (A × ℕ)) (m : A × ℕ → ℕ → Read (B × ℕ)) (l : ℕ → ℕ → Read ℕ)
    → ((p : A × ℕ) (at : ℕ) → e ≡ got p at → left_of (m p at) ≡ l p.1 at) → left_of (bind e m) ≡ bind (left_of e) l
behind_part (got p at) m l h = h p at refl
behind_part (refused r) m l h = refl

-- a part with something made of it
made_left : {A B : Type 0} (f : A → B) (e : Read (A × ℕ)) → left_of (bind e (λ a at. got (f a.0, a.1) at)) ≡ left_of e
made_left f (got p at) = refl
made_left f (refused r) = refl

-- what follows a code, read by any parts that leave as many nodes as deep enough ones do
module _ (k : ℕ) (parts : (τ : Sort) → PartReader τ) (n : ℕ) (P : (τ : Sort) (m : ℕ) → m ≤ n → (s : List ℕ) (at : ℕ) → left_of (parts τ m s at) ≡ part_left k τ m s at) where
  first : (τ : Sort) (s : List ℕ) (at : ℕ) → left_of (parts τ n s at) ≡ part_left k τ n s at
  first τ = P τ n (omega arith)

  followed : (place : ℕ) {σ : Sort} (r : Follows σ) (s : List ℕ) (at : ℕ) → left_of (following parts place r n s at) ≡ follow_left k place r n s at
  followed place (leaf t) s at = refl
  followed place (field m f) s at = behind_field (m s at) _ _ λ _ _. refl
  followed place (one τ f) s at = made_left f (parts τ n s at) ∙ first τ s at
  followed place (two τ υ f) s at =
      behind_part (parts τ n s at) _ _
      (λ p i e. let fewer = part_fewer k τ n s at (sym (first τ s at) ∙ ap left_of e) in made_left (f p.0) (parts υ p.1 s i) ∙ P υ p.1 (omega arith) s i)
      ∙ ap (λ e. bind e (λ l i. part_left k υ l s i)) (first τ s at)
  followed place unknown s at = refl

-- a part at most b deep, which is deep enough: the code of its node, and what follows
deep : (k b f : ℕ) (σ : Sort) (n : ℕ) → f ≤ b → n ≤ f → (s : List ℕ) (at : ℕ)
    → left_of (part k f σ n s at) ≡ bind (node_code n s at) (λ c next. follow_left k at (codes k σ c) (n - 1) s next)
unfolding part node_code part_left
deep k b zero σ zero g l s at = refl
deep k b zero σ (suc n) g l s at = absurd (omega arith)
deep k zero (suc f) σ n g l s at = absurd (omega arith)
deep k (suc b) (suc f) σ n g l s at =
    behind_field (node_code n s at) _ _ λ c next.
    followed k (part k f) (n - 1)
    (λ τ m i t from. deep k b f τ m (omega arith) (omega arith) t from ∙ sym (deep k b m τ m (omega arith) (omega arith) t from))
    at (codes k σ c) s next

pub part_step : (k : ℕ) (σ : Sort) (n : ℕ) (s : List ℕ) (at : ℕ)
    → part_left k σ n s at ≡ bind (node_code n s at) (λ c next. follow_left k at (codes k σ c) (n - 1) s next)
unfolding part_left
part_step k σ n s at = deep k n n σ n (omega arith) (omega arith) s at

-- fewer nodes are left than were allowed
abbrev pub Fewer : ℕ → Read ℕ → Type 0
Fewer n (got l at) = l < n
Fewer n (refused r) = Unit {0}

pub part_falls : (k : ℕ) (σ : Sort) (n : ℕ) (s : List ℕ) (at : ℕ) → (part_left k σ n s at ≡ part_left k σ n s at) × Fewer n (part_left k σ n s at)
part_falls k σ n s at = (refl, go (part_left k σ n s at) refl)
  where
    go : (e : Read ℕ) → part_left k σ n s at ≡ e → Fewer n e
    go (got l next) h = part_fewer k σ n s at h
    go (refused r) h = tt

-- codes that are read alike
module _ (k c place n : ℕ) (s : List ℕ) (at : ℕ) where
  pub two_paths : 4 ≤ c → c ≤ 6 → follow_left k place (codes k path c) n s at ≡ bind (part_left k path n s at) (λ l next. part_left k path l s next)
  two_paths l m = grind arith

  pub two_qualifiers : 0x14 ≤ c → c ≤ 0x15 → follow_left k place (codes k qualifier c) n s at ≡ bind (part_left k qualifier n s at) (λ l next. part_left k qualifier l s next)
  two_qualifiers l m = grind arith

  pub no_path : (c < 1) ⊎ (7 < c) → follow_left k place (codes k path c) n s at ≡ refused (refusal_of Code place)
  no_path h = grind arith

  pub no_qualifier : (c < 0x11) ⊎ (0x15 < c) → follow_left k place (codes k qualifier c) n s at ≡ refused (refusal_of Code place)
  no_qualifier h = grind arith

-- a whole file has the nodes that its path does not leave
module _ (k : ℕ) (s : List ℕ) where
  -- how many nodes are read, and what is read of a path and the end behind it
  abbrev nodes : XPath × ℕ → ℕ
  nodes p = query_limit - p.1

  abbrev with_end : XPath × ℕ → ℕ → Read (XPath × ℕ)
  with_end p next = bind (end s next) λ _ last. got p last

  abbrev nodes_with_end : ℕ → ℕ → Read ℕ
  nodes_with_end l next = bind (end s next) λ _ last. got (query_limit - l) last

  behind_end : (p : XPath × ℕ) (e : Read (Unit {0})) → file_of (bind (bind e λ _ last. got p last) λ q last. got (nodes q) last) ≡ file_of (bind e λ _ last. got (nodes p) last)
  behind_end p (got u n) = refl
  behind_end p (refused r) = refl

  behind_path : (e : Read (XPath × ℕ)) → file_of (mapped nodes (bind e with_end)) ≡ file_of (bind (left_of e) nodes_with_end)
  unfolding mapped
  behind_path (got p next) = behind_end p (end s next)
  behind_path (refused r) = refl

  behind_header : (e : Read ℕ) → file_of (mapped nodes (bind (bind e λ _ body. part k query_limit path query_limit s body) with_end))
      ≡ file_of (bind e λ _ body. bind (part_left k path query_limit s body) nodes_with_end)
  unfolding mapped part_left
  behind_header (got v body) = behind_path (part k query_limit path query_limit s body)
  behind_header (refused r) = refl

  pub file_nodes : file_of (mapped nodes (query_file k s 0)) ≡ file_of (bind (header 0x51 0x52 0x59 1 s 0) λ _ body. bind (part_left k path query_limit s body) nodes_with_end)
  unfolding query_file
  file_nodes = behind_header (header 0x51 0x52 0x59 1 s 0)
