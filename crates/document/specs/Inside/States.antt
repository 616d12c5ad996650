-- How the reader holds where reading stands: what its parts promise each other.
use Rattle.std.specs.Prelude.{List, take}
use Rattle.meaning.specs.declared.Element.{Element}
use Rattle.tre.specs.Tre.{Open}
use Rattle.document.specs.declared.Standing.{Standing}

-- what is open: the elements are the first that are kept
unfoldable pub open_in : List Element → Standing → Open
open_in kept st = record { elements = take st.count kept; inner = st.inner }
