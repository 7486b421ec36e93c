-- A run that goes on: the state so far, with the queue of what is left to settle.
use Rattle.std.proofs.Common.{◌≡◌, ℕ, suc, ◌+◌, ◌<◌, ◌≤◌, true, false, cond, eqb, [], length, Some, None, Option, Ok, Err, Result, sym, refl, ap, ◌∙◌, subst, add-one, arith}
use Rattle.costs.specs.declared.kind.Cost.{Ghosts}
use Rattle.costs.specs.Costs.{Ops, Laws}
use Rattle.queue.specs.declared.entries.Entry.{Entry}
use Rattle.queue.specs.declared.queues.Queue.{Queue}
use Rattle.queue.specs.declared.queues.NoRoom.{NoRoom}
use Rattle.queue.specs.Queues.{Put, Offered, Took, held_in, room_of}
use Rattle.least_pairs.specs.Runs.{Label, Job, State, settled, run, begun, least, outcome}
use Rattle.runs.specs.Turns.{Runnable, Turn, Waiting, costed, pending}
use Rattle.runs.proofs.Spending.{picks, picks_none}
use Rattle.runs.proofs.Turning.{room, after_more, turn_of, within, still}

-- the state after some turns, the queue of what is left, and no more turns than sites
pub record Ongoing {C : Type 0} (k : Ops C) (j : Job C) (root : ℕ) (s : State C) {m : Ghosts C} (q : Queue C m) (n : ℕ) : Type 0 where
  pub reached : s ≡ run k j n (begun k root)
  pub waiting : Waiting k j.sites q s.labels s.order
  pub counted : length s.order ≡ n
  pub most : n ≤ j.sites

-- a site with room for it is taken in
pub offered_put : {C : Type 0} (k : Ops C) {m : Ghosts C} (q : Queue C m) (s : ℕ) (c : C) (r : Result (Unit {0}) NoRoom) (p : Queue C m) → s < room_of q → Offered k q s c r p → Put k q s c p
offered_put k q s c (Ok _) p h o = o.1
offered_put k q s c (Err _) p h o = absurd (omega (arith, o.0))

module _ {C : Type 0} {k : Ops C} (laws : Laws k) (j : Job C) (root : ℕ) (can : Runnable k j root) where
  -- at the beginning the root waits
  pub begins : (labels : ℕ → Option (Label C)) → labels ≡ (begun k root).labels → {m : Ghosts C} (q : Queue C m) → j.sites ≤ room_of q → ((w : ℕ) → held_in k q w ≡ cond (eqb w root) (Some k.zero) None) → Ongoing k j root (record { labels = labels; order = [] }) q 0
  begins labels is q wide held_is = record {
    reached = λ i. record { labels = is i; order = [] };
    waiting = record {
      room = wide;
      waits = λ w. held_is w ∙ alone w ∙ sym (ap (λ f. pending f [] w) is);
    };
    counted = refl;
    most = omega arith;
  }
    where
      alone : (w : ℕ) → cond (eqb w root) (Some k.zero) None ≡ pending (begun k root).labels [] w
      alone w =
          elim (eqb w root) as (λ b. cond b (Some k.zero) None ≡ costed (cond b (Some (record { cost = k.zero; link = 0; turn = root })) None)) [
            | true ↦ refl
            | false ↦ refl
          ]

  module _ (s : State C) {m : Ghosts C} (q : Queue C m) (n : ℕ) (on : Ongoing k j root s q n) where
    -- what has a label is a site
    labelled : (w : ℕ) (l : Label C) → s.labels w ≡ Some l → w < j.sites
    labelled w l is = within laws j root can n w l (ap (λ t. t.labels w) (sym on.reached) ∙ is)

    -- where the queue is empty the run is at its end
    pub ends : ((w : ℕ) → held_in k q w ≡ None) → s ≡ outcome k j root
    ends empty =
        let none = picks_none laws s j.sites (λ w. sym (on.waiting.waits w) ∙ empty w) in
        on.reached ∙ sym (still laws j root can n j.sites on.most (ap (λ t. least k t j.sites) (sym on.reached) ∙ none))

    module _ (x : Entry C) (p : Queue C m) (took : Took k q x p) where
      -- what the queue gives up is settled next
      picked : least k s j.sites ≡ Some (x.site, x.cost)
      picked =
          picks laws s j.sites x.site x.cost labelled (sym (on.waiting.waits x.site) ∙ took.was) (λ w d is.
          let first = took.least w d (on.waiting.waits w ∙ is) in
          (first.0, λ same. first.1 (sym same)))

      -- the same of the state after so many turns
      picked_then : least k (run k j n (begun k root)) j.sites ≡ Some (x.site, x.cost)
      picked_then = ap (λ t. least k t j.sites) (sym on.reached) ∙ picked

      -- there are fewer settled than sites
      pub fewer : n < j.sites
      fewer = subst (λ m. m < j.sites) on.counted (subst (λ t. length t.order < j.sites) (sym on.reached) (room laws j root can n x.site x.cost picked_then))

      -- what the turn needs
      pub turn : Turn k j s.labels x.site x.cost s.order
      turn = subst (λ t. Turn k j t.labels x.site x.cost t.order) (sym on.reached) (turn_of laws j root can n x.site x.cost fewer picked_then)

      -- one turn on
      pub goes_on : (t : State C) → t ≡ settled k j s (Some (x.site, x.cost)) → (r : Queue C m) → Waiting k j.sites r t.labels t.order → Ongoing k j root t r (n + 1)
      goes_on t is r waiting = record {
        reached = is ∙ ap (λ u. settled k j u (Some (x.site, x.cost))) on.reached ∙ sym (after_more laws j root can n x.site x.cost picked_then) ∙ ap (λ m. run k j m (begun k root)) (sym (add-one n));
        waiting = waiting;
        counted = ap (λ u. length u.order) is ∙ ap suc on.counted ∙ sym (add-one n);
        most = omega (arith, fewer);
      }

-- there are fewer settled than sites, of an equal job
pub fewer_same : {C : Type 0} {k : Ops C} (laws : Laws k) {j i : Job C} {root : ℕ} {s : State C} {m : Ghosts C} {p q : Queue C m} {n : ℕ} {x : Entry C} → j ≡ i → Runnable k i root → Ongoing k j root s q n → Took k q x p → n < i.sites
fewer_same {C} {k} laws {j} {i} {root} {s} {m} {p} {q} {n} {x} same can on took =
    subst (λ z. n < z.sites) same (fewer laws j root (subst (λ z. Runnable k z root) (sym same) can) s q n on x p took)
