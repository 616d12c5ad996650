-- The laws of QRY: the reader counts the query's nodes, accepts only what would be written for a legal query, and reads that back.
use Prim.Native.Nat.{ℕ, ◌+◌, ◌-◌, ◌≤◌, ◌<◌}
use mathlib.Core.List.{List, ◌++◌}
use mathlib.Core.Path.{◌≡◌, ap}
use native.Mathlib.Omega.{arith}
use lib.ListN.{length}
use Rattle.meaning.specs.Limits.{query_limit}
use Rattle.meaning.specs.Queries.{XPath, query_nodes, LegalPath}
use Rattle.fields.specs.Read.{Read, got, header, ◌>>◌}
use Rattle.fields.specs.Write.{Bytes, header_of}
use Rattle.fields.proofs.Formats.{Takes, takes_bind, takes_first, takes_file, accepts_weaken, reads_bind, reads_header, reads_file, refused_out}
use Rattle.query.specs.Qry.{path, part, query_file, query_bytes}
use Rattle.query.proofs.Parts.{Counted, counted, ended, part_right, query_counted}
use Rattle.query.proofs.Written.{path_written}

counted_out : {n : ℕ} {e : Read (XPath × ℕ)} {p : XPath} {left at : ℕ} → Counted path n e → e ≡ got (p, left) at → (left < n) × (left + query_nodes p ≡ n)
unfolding query_nodes
counted_out {p = p} {left} (counted {p = q} h) i = let j : q ≡ (p, left) = cc in rw j at h
counted_out ended i = refused_out i

-- one node at least, and not more than are allowed
pub query_counts : (k : ℕ) (s : List ℕ) {p : XPath} {left n : ℕ} → query_file k s 0 ≡ got (p, left) n → (left + query_nodes p ≡ query_limit) × (1 ≤ query_nodes p)
query_counts k s h = let (some, all) = counted_out (query_counted k s) h in (all, omega arith)

takes_query : (k : ℕ) → Takes (header 0x51 0x52 0x59 1 >> part k query_limit path query_limit) (λ p. query_bytes p.0) (λ p. LegalPath k p.0)
unfolding query_bytes
takes_query k =
    takes_bind (takes_first 0x51 0x52 0x59) λ _ _.
    accepts_weaken ((part_right k query_limit path).accepts query_limit) λ p b h. (ap (λ l. header_of 0x51 0x52 0x59 1 ++ l) h.0, h.1)

pub query_read_lem : (k : ℕ) {s : List ℕ} → Bytes s → {p : XPath} {left n : ℕ} → query_file k s 0 ≡ got (p, left) n
    → LegalPath k p × (query_nodes p + left ≡ query_limit) × (s ≡ query_bytes p)
unfolding query_file
query_read_lem k {s} bs h =
    let (same, legal, _) = takes_file s (takes_query k) bs h in
    let (all, _) = query_counts k s h in
    (legal, omega arith, same)

pub query_written : (k : ℕ) (p : XPath) → LegalPath k p → query_nodes p ≤ query_limit
    → query_file k (query_bytes p) 0 ≡ got (p, query_limit - query_nodes p) (length (query_bytes p))
unfolding query_file query_bytes query_nodes
query_written k p legal few =
    reads_file
    (reads_bind (λ _. part k query_limit path query_limit)
    (reads_header 0x51 0x52 0x59 1 1 (omega arith) (omega arith))
    ((path_written k p legal).reads_back query_limit query_limit (query_limit - query_nodes p) (omega arith) (omega arith)))
