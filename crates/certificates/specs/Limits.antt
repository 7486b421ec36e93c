-- The limits of a certificate's fields.
use Rattle.std.specs.Prelude.{ℕ, ◌+◌, ◌*◌, ◌<◌, Bool, true, not, ◌&&◌, List, [], ◌∷◌, ◌++◌, length, ◌==◌, nat_le, nat_lt}
use Rattle.std.specs.List.{AllByRecursion, list_all, list_any}
use Rattle.certificates.specs.Format.{Fields}

-- A circuit's number: 1 to 32.
abbrev pub circuit_sound : ℕ → Bool
circuit_sound circuit = nat_le 1 circuit && nat_le circuit 32

-- Two different sites below 256.
abbrev pub sites_sound : ℕ → ℕ → Bool
sites_sound root target = nat_lt root 256 && (nat_lt target 256 && not (root == target))

-- Metres: 2 to 510,000,000; pole metres: up to the metres.
abbrev pub metres_sound : ℕ → ℕ → Bool
metres_sound metres poles = nat_le 2 metres && (nat_le metres 510000000 && nat_le poles metres)

-- The number of a route's links: 1 to 255.
abbrev pub count_sound : ℕ → Bool
count_sound count = nat_le 1 count && nat_le count 255

-- Each link of a route is below 2,048.
abbrev pub links_sound : List ℕ → Bool
links_sound route = list_all (λ k. nat_lt k 2048) route

-- Whether a link is one of some links.
abbrev pub among : ℕ → List ℕ → Bool
among k links = list_any (λ j. j == k) links

-- No link stands twice among some links.
abbrev pub none_twice : List ℕ → Bool
none_twice [] = true
none_twice (k ∷ ks) = not (among k ks) && none_twice ks

-- A route by itself: 1 to 255 links, each below 2,048.
abbrev pub route_sound : List ℕ → Bool
route_sound route = count_sound (length route) && links_sound route

-- The two routes: each by itself, and no link twice in the two together.
abbrev pub routes_sound : List ℕ → List ℕ → Bool
routes_sound one two = route_sound one && (route_sound two && none_twice (one ++ two))

-- All limits of a certificate.
abbrev pub within : Fields → Bool
within f = circuit_sound f.circuit && (sites_sound f.root f.target && (metres_sound f.metres f.poles && routes_sound f.one f.two))

-- Fields that the format has room for: numbers of two bytes and of four, and a payload whose length two bytes can say.
pub record Fitting (f : Fields) : Type 0 where
  pub circuit : f.circuit < 65536
  pub root : f.root < 65536
  pub target : f.target < 65536
  pub metres : f.metres < 4294967296
  pub poles : f.poles < 4294967296
  pub one : AllByRecursion (λ k. k < 65536) f.one
  pub two : AllByRecursion (λ k. k < 65536) f.two
  pub size : 18 + 2 * (length f.one + length f.two) < 65536
