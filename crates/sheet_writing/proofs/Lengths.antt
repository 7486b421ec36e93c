-- Whether a name of a list is too long, by the list's own test.
use Rattle.std.proofs.Common.{◌≡◌, ℕ, ◌+◌, Bool, ◌||◌, ltb, leb, List, map, length, refl, arith}
use Rattle.std.specs.List.{list_any}
use Rattle.std.proofs.lemmas.List.Recursion.{same_from_clauses}
use Rattle.std.proofs.lemmas.Bool.Decides.{nat_tests}
use Rattle.sheet_writing.specs.declared.SiteName.{SiteName}
use Rattle.sheet_writing.specs.Wholes.{named, long_name}

-- whether a name is too long for a record's length
abbrev pub is_long : SiteName → Bool
is_long n = leb 65536 (2 + length n.name.now)

-- the site takes two of the bytes that a record's length can count
pub beside_site : (k : ℕ) → ltb 65533 k ≡ leb 65536 (2 + k)
beside_site k = grind (arith, nat_tests)

pub any_long : (ns : List SiteName) → list_any is_long ns ≡ long_name (map named ns)
any_long ns =
    same_from_clauses (list_any is_long) (λ ns. long_name (map named ns))
    (λ n rest. is_long n || rest) refl (λ n ns. refl) (λ n ns. refl) ns
