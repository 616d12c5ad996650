-- A listing that is lent the room of the most elements and steps is never short of it.
use Prim.Native.Nat.{ℕ, ◌+◌, ◌*◌, ◌≤◌}
use mathlib.Core.Path.{◌≡◌, ap, ◌∙◌}
use mathlib.Core.List.{List}
use native.Mathlib.Omega.{arith}
use mir.Syntax.{w8}
use mir.Val.{Fits}
use lib.ListN.{length, get_or}
use Rattle.meaning.specs.declared.Answer.{Answer}
use Rattle.meaning.specs.Limits.{small, element_limit, step_limit, room_bytes}
use Rattle.rooms.specs.Run.{Gives}
use Rattle.trammelbud.specs.Calls.{list_of}
use Rattle.trammelbud.proofs.Carried.{list_is}
use Rattle.demands.proofs.Demand1.{demand_1}

pub list_has_room : (gra edg qry text work : List ℕ) {a : Answer} {text' work' : List ℕ} → ((i : ℕ) → Fits w8 (get_or gra i 0)) → ((i : ℕ) → Fits w8 (get_or edg i 0)) → ((i : ℕ) → Fits w8 (get_or qry i 0))
    → 13 * (element_limit + 2) ≤ length text → room_bytes small.row * step_limit ≤ length work → Gives (list_of gra edg qry text work) a text' work' → a.number ≡ 12 → ⊥
list_has_room gra edg qry text work bg be bq for_text for_steps gives h =
    let lists = (demand_1 gra (λ i. (bg i).fits)).list (λ i. (be i).fits) (λ i. (bq i).fits) (list_is gra edg qry text work).allowed in
    let ((g, (es, p)), (f, (t, q, few)), none) = lists.short (ap (λ r. r.answer.number) gives ∙ h) in
    none (record { for_text = omega (arith, t.legal.most_elements, for_text); for_steps = omega (arith, few, for_steps) })
