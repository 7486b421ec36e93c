-- What a queue holds, and what its calls change.
use Rattle.std.specs.Prelude.{◌≡◌, ℕ, zero, suc, ◌+◌, ◌<◌, ◌≤◌, Bool, false, cond, length, is_some, Some, None, Ok, Err, Option, Result, ◌==◌}
use Rattle.costs.specs.declared.kind.Cost.{Ghosts}
use Rattle.costs.specs.Costs.{Ops}
use Rattle.queue.specs.declared.entries.Entry.{Entry}
use Rattle.queue.specs.declared.queues.Queue.{Queue}
use Rattle.queue.specs.declared.queues.NoRoom.{NoRoom}
use Rattle.queue.specs.Entries.{entry_at, among}

-- the cost with which a site is in the queue, if it is
abbrev pub held_in : {C : Type 0} → Ops C → {m : Ghosts C} → Queue C m → ℕ → Option C
held_in k q s = among (entry_at k q.entries.now) q.len s

-- how many sites there is room for
abbrev pub room_of : {C : Type 0} {m : Ghosts C} → Queue C m → ℕ
room_of q = length q.entries.now

-- how many of the numbers below one pass a test
abbrev pub number : (ℕ → Bool) → ℕ → ℕ
number p zero = 0
number p (suc i) = number p i + cond (p i) 1 0

-- how many sites are in the queue
abbrev pub size_of : {C : Type 0} → Ops C → {m : Ghosts C} → Queue C m → ℕ
size_of k q = number (λ s. is_some (held_in k q s)) (room_of q)

-- the queue p is the queue q with a site in it at a cost
pub record Put {C : Type 0} (k : Ops C) {m : Ghosts C} (q : Queue C m) (s : ℕ) (c : C) (p : Queue C m) : Type 0 where
  pub held : (w : ℕ) → held_in k p w ≡ cond (w == s) (Some c) (held_in k q w)
  pub size : size_of k p ≡ cond (is_some (held_in k q s)) (size_of k q) (size_of k q + 1)
  pub room : room_of p ≡ room_of q

-- what an offer of a site at a cost answers and leaves
abbrev pub Offered : {C : Type 0} → Ops C → {m : Ghosts C} → Queue C m → ℕ → C → Result (Unit {0}) NoRoom → Queue C m → Type 0
Offered k q s c (Ok _) p = (s < room_of q) × Put k q s c p
Offered k q s c (Err _) p = (room_of q ≤ s) × (p ≡ q)

-- the queue p is the queue q without the least entry, of equal costs that of the lowest site
pub record Took {C : Type 0} (k : Ops C) {m : Ghosts C} (q : Queue C m) (x : Entry C) (p : Queue C m) : Type 0 where
  pub was : held_in k q x.site ≡ Some x.cost
  pub least : (w : ℕ) (c : C) → held_in k q w ≡ Some c → (k.less c x.cost ≡ false) × (c ≡ x.cost → x.site ≤ w)
  pub held : (w : ℕ) → held_in k p w ≡ cond (w == x.site) None (held_in k q w)
  pub size : size_of k p + 1 ≡ size_of k q
  pub room : room_of p ≡ room_of q

-- what taking the least answers and leaves
abbrev pub Taken : {C : Type 0} → Ops C → {m : Ghosts C} → Queue C m → Option (Entry C) → Queue C m → Type 0
Taken k q None p = ((w : ℕ) → held_in k q w ≡ None) × (p ≡ q)
Taken k q (Some x) p = Took k q x p
