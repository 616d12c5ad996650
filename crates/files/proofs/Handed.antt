-- What was read in order is there, file by file; and a refusal is handed on to whatever is made of it.
use Prim.Native.Nat.{ℕ}
use mathlib.Core.Path.{◌≡◌, ap, subst, ◌∙◌}
use mathlib.Core.List.{List}
use Rattle.meaning.specs.declared.Graph.{Graph}
use Rattle.meaning.specs.declared.Refusal.{Refusal}
use Rattle.fields.specs.Read.{Read, got, refused, bind, mapped}
use Rattle.fields.proofs.Formats.{bind_out, got_same}
use Rattle.graph.specs.Gra.{graph_file}
use Rattle.files.specs.Files.{under, followed_by}

pub under_got : {A : Type 0} (gra : List ℕ) (f : Graph → Read A) {g : Graph} {a : A} {m n : ℕ} → graph_file gra 0 ≡ got g m → f g ≡ got a n → under gra f ≡ got (g, a) n
unfolding under
under_got gra f p q = rw (p, q)

pub under_out : {A : Type 0} (gra : List ℕ) (f : Graph → Read A) {x : Graph × A} {n : ℕ} → under gra f ≡ got x n → (m : ℕ) × (graph_file gra 0 ≡ got x.0 m) × (f x.0 ≡ got x.1 n)
unfolding under
under_out {A} gra f {n = n} e =
    let (g, m, graph, rest) = bind_out (graph_file gra 0) (λ g _. bind {B = Graph × A} (f g) λ a n. got (g, a) n) e in
    let (a, l, value, last) = bind_out (f g) (λ a n. got (g, a) n) rest in
    let (same, end) = got_same last in
    (m, graph ∙ ap (λ x. got x.0 m) same, subst (λ x. f x.0 ≡ got x.1 n) same (value ∙ ap (got a) end))

pub then_got : {A B : Type 0} (x : Read A) (y : Read B) {a : A} {b : B} {m n : ℕ} → x ≡ got a m → y ≡ got b n → followed_by x y ≡ got (a, b) n
unfolding followed_by
then_got x y p q = rw (p, q)

pub then_out : {A B : Type 0} (x : Read A) (y : Read B) {z : A × B} {n : ℕ} → followed_by x y ≡ got z n → (m : ℕ) × (x ≡ got z.0 m) × (y ≡ got z.1 n)
unfolding followed_by
then_out {A} {B} x y {n = n} e =
    let (a, m, first, rest) = bind_out x (λ a _. bind {B = A × B} y λ b n. got (a, b) n) e in
    let (b, l, second, last) = bind_out y (λ b n. got (a, b) n) rest in
    let (same, end) = got_same last in
    (m, first ∙ ap (λ z. got z.0 m) same, second ∙ ap (got b) end ∙ ap (λ z. got z.1 n) same)

module _ {A B : Type 0} (f : A → B) {e : Read A} where
  pub mapped_got : {a : A} {n : ℕ} → e ≡ got a n → mapped f e ≡ got (f a) n
  unfolding mapped
  mapped_got h = rw h

  pub mapped_refused : {r : Refusal} → e ≡ refused r → mapped f e ≡ refused r
  unfolding mapped
  mapped_refused h = rw h
