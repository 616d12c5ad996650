-- What the functions of this crate rely on.
use Rattle.std.specs.Prelude.{ℕ, ◌≤◌, ◌<◌, List, length}
use Rattle.meaning.specs.Limits.{words}
use Rattle.meaning.specs.Documents.{View}
use Rattle.text.specs.Listing.{listing}

-- the first line can count the nodes that are to be listed, and there is room for the listing
pub record Listable (d : View) (nodes : List ℕ) (out : List ℕ) : Type 0 where
  pub most : length nodes < words
  pub room : length (listing d nodes) ≤ length out

-- the room that any refusal has enough of
abbrev pub refusal_limit : ℕ
refusal_limit = 14
