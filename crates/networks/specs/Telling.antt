-- What a network answers, as a function of its meaning and the link's number.
use Rattle.std.specs.Prelude.{ℕ, ◌+◌, ◌-◌, cond, length, is_ok, Ok, Err, Result, nat_lt}
use Rattle.networks.specs.declared.model.Link.{Link}
use Rattle.networks.specs.declared.model.NetworkRefusal.{NetworkRefusal}
use Rattle.networks.specs.declared.model.NetworkRefusal.TheVariants.{LinkTooHigh, NotUsable, NoneTaken}
use Rattle.networks.specs.Meaning.{Net, link_at, usable}
use Rattle.networks.specs.Changing.{changed, only, retaken}

-- what is told of a link, or that there is no such link
abbrev pub told : {A : Type 0} → (Link → A) → Net → ℕ → Result A NetworkRefusal
told f n k = cond (nat_lt k (length n.links)) (Ok (f (link_at n k))) (Err LinkTooHigh)

-- start and end together
abbrev pub ends : Link → ℕ × ℕ
ends l = (l.start, l.end)

-- metres and pole metres together
abbrev pub lengths : Link → ℕ × ℕ
lengths l = (l.metres, l.poles)

-- channels and channels taken together
abbrev pub channels : Link → ℕ × ℕ
channels l = (l.channels, l.taken)

-- a take is accepted exactly on a usable link
abbrev pub take_answer : Net → ℕ → Result (Unit {0}) NetworkRefusal
take_answer n k = cond (nat_lt k (length n.links)) (cond (usable (link_at n k)) (Ok tt) (Err NotUsable)) (Err LinkTooHigh)

-- accepted, it adds one to the link's channels taken; refused, it alters nothing
abbrev pub take_after : Net → ℕ → Net
take_after n k = cond (is_ok (take_answer n k)) (changed (only k (retaken (λ t. t + 1))) n) n

-- a give is accepted exactly where a channel is taken, lit or dark
abbrev pub give_answer : Net → ℕ → Result (Unit {0}) NetworkRefusal
give_answer n k = cond (nat_lt k (length n.links)) (cond (nat_lt 0 (link_at n k).taken) (Ok tt) (Err NoneTaken)) (Err LinkTooHigh)

-- accepted, it subtracts one from the link's channels taken; refused, it alters nothing
abbrev pub give_after : Net → ℕ → Net
give_after n k = cond (is_ok (give_answer n k)) (changed (only k (retaken (λ t. t - 1))) n) n
