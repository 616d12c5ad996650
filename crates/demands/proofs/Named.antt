-- A call that leaves the selected nodes names exactly those that the path reaches from the document node, ascending.
use Prim.Native.Nat.{ℕ, suc}
use mathlib.Core.Path.{◌≡◌}
use mathlib.Core.Bool.{◌&&◌}
use mathlib.Core.List.{List}
use native.Mathlib.Omega.{arith}
use lib.ListN.{length}
use borrow.Author.Tests.{le-leb}
use Rattle.meaning.specs.declared.Answer.{Answer}
use Rattle.meaning.specs.declared.Element.{Element}
use Rattle.meaning.specs.Documents.{view}
use Rattle.meaning.specs.Queries.{XPath, reaches, selected}
use Rattle.meaning.proofs.Tests.{and_in, and_right}
use Rattle.meaning.proofs.Listed.{Lists, listed_lists}
use Rattle.demands.specs.Demands.{Names}

module _ (es : List Element) (p : XPath) where
  pub selected_lists : Lists (suc (length es)) (λ w. (view es).there w && reaches p (view es) 0 w) (selected (view es) p)
  unfolding selected view
  selected_lists = listed_lists (suc (length es)) (λ w. (view es).there w && reaches p (view es) 0 w)

  pub names : {a : Answer} {ws : List ℕ} → a.number ≡ 0 → a.count ≡ length ws → ws ≡ selected (view es) p → Names (view es) p a ws
  unfolding view
  names accepts counts here =
      let l = selected_lists in
      record {
        accepts = accepts;
        counts = counts;
        ascend = rw here l.ascends;
        sound = rw here λ w a. (rw a.there at (l.below a.place a.inside), and_right ((view es).there w) _ (rw a.there at (l.passes a.place a.inside)));
        complete = rw here λ w less q. let i = l.found w less (and_in (le-leb w (length es) (omega (arith, less))) q) in record { place = i.0; inside = i.1; there = i.2 };
      }
