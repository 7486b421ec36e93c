-- What the tests of a quote say.
use Rattle.std.proofs.Common.{◌≡◌, ℕ, ◌<◌, true, not, ◌&&◌, eqb, ltb, sym, ltb-true}
use borrow.Author.Tests.{eqb-false, not-true}
use Rattle.std.proofs.lemmas.Bool.{and_parts}
use Rattle.quotes.specs.Quotes.{two_sites}

-- two different sites
pub two_apart : (sites root target : ℕ) → two_sites sites root target ≡ true → (root < sites) × (target < sites) × (target ≡ root → ⊥)
two_apart sites root target h =
    let a = and_parts (ltb root sites) (ltb target sites && not (eqb root target)) h in
    let b = and_parts (ltb target sites) (not (eqb root target)) a.1 in
    (ltb-true root sites a.0, ltb-true target sites b.0, λ e. eqb-false root target (not-true (eqb root target) b.1) (sym e))
