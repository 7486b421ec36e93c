-- The same bytes mean one thing.
use Rattle.std.proofs.Common.{◌≡◌, ℕ, ◌+◌, ◌<◌, ◌≤◌, true, List, [], ◌∷◌, ◌++◌, length, sym, refl, ap, ◌∙◌, subst, append_assoc, append-nil, add-zero, add_assoc, zero-add, arith, length-append}
use Rattle.std.specs.List.{flat_map, AllByRecursion}
use Rattle.std.proofs.lemmas.Bool.{and_parts, le-leb, lt-ltb, ltb-true, eq-eqb, cond-true}
use Rattle.networks.specs.declared.model.Link.{Link}
use Rattle.networks.specs.Meaning.{link_sound, all_sound}
use Rattle.sheet_format.specs.Items.{Named, header, name, link, bytes_of}
use Rattle.sheet_format.specs.Rules.{Fields, Before, unbegun, begun, next_site}
use Rattle.sheet_format.specs.Sheets.{written, GoodName, Rising, Unused, written_before, LawfulBefore, Outcome, sheet, fault, Means}
use Rattle.sheet_format.proofs.Checks.{refused_none, link_limits, header_limits, broken_end}
use Rattle.sheet_format.proofs.Back.{Fitting}
use Rattle.sheet_format.proofs.Runs.{Runs, stops, ends, one_outcome, over}

abbrev fields : ℕ → ℕ → List Named → List Link → Fields
fields s c ns ls = record { sites = s; count = c; names = ns; links = ls }

abbrev names_bytes : List Named → List ℕ
names_bytes ns = flat_map (λ n. bytes_of (name n)) ns

abbrev links_bytes : List Link → List ℕ
links_bytes ls = flat_map (λ l. bytes_of (link l)) ls

pub link_fits : (s : ℕ) (l : Link) → s ≤ 256 → link_sound s l ≡ true → Unused l → Fitting (link l)
link_fits s l few h u = let k = link_limits s l h in (omega arith, omega arith, omega arith, omega arith, omega arith, u)

pub name_fits : (s : ℕ) (n : Named) → s ≤ 256 → GoodName s n → Fitting (name n)
name_fits s n few g = let k : n.site < s = ltb-true _ _ (and_parts _ _ g.limits).0 in (omega arith, g.shortest, g.longest)

pub next_site_push : (from : ℕ) (ns : List Named) (n : Named) → next_site from (ns ++ n ∷ []) ≡ n.site + 1
next_site_push from [] n = refl
next_site_push from (m ∷ ns) n = next_site_push (m.site + 1) ns n

-- the place after two parts
further : (o : Outcome) (b : Before) (rest : List ℕ) (p : ℕ) (x y : List ℕ) → Runs b rest (p + length (x ++ y)) o → Runs b rest (p + length x + length y) o
further o b rest p x y t = subst (λ n. Runs b rest n o) (ap (λ n. p + n) (length-append x y) ∙ sym (add_assoc p (length x) (length y))) t

module _ (s c : ℕ) (few : s ≤ 256) (rest : List ℕ) (o : Outcome) where
  through_links : (ns : List Named) (done todo : List Link) (p : ℕ) → all_sound s todo ≡ true → AllByRecursion Unused todo → length done + length todo ≤ c → Runs (begun (fields s c ns (done ++ todo))) rest (p + length (links_bytes todo)) o → Runs (begun (fields s c ns done)) (links_bytes todo ++ rest) p o
  through_links ns done [] p sound unused room t = subst (λ n. Runs (begun (fields s c ns done)) rest n o) (add-zero p) (subst (λ l. Runs (begun (fields s c ns l)) rest (p + 0) o) (append-nil done) t)
  through_links ns done (l ∷ ls) p sound unused room t =
      let h = and_parts (link_sound s l) (all_sound s ls) sound in
      let lt : length done < c = omega arith in
      let after = through_links ns (done ++ l ∷ []) ls (p + length (bytes_of (link l))) h.1 unused.1 (omega (arith, length-append done (l ∷ [])))
      (subst (λ k. Runs (begun (fields s c ns k)) rest (p + length (bytes_of (link l)) + length (links_bytes ls)) o) (sym (append_assoc done (l ∷ []) ls))
      (further o _ rest p (bytes_of (link l)) (links_bytes ls) t)) in
      subst (λ k. Runs (begun (fields s c ns done)) k p o) (sym (append_assoc (bytes_of (link l)) (links_bytes ls) rest))
      (over (begun (fields s c ns done)) (link l) (links_bytes ls ++ rest) p o (link_fits s l few h.0 unused.0) (refused_none (begun (fields s c ns done)) (link l) refl h.0 (lt-ltb _ _ lt)) after)

  through_names : (done todo : List Named) (p : ℕ) → AllByRecursion (GoodName s) todo → Rising (next_site 0 done) todo → Runs (begun (fields s c (done ++ todo) [])) rest (p + length (names_bytes todo)) o → Runs (begun (fields s c done [])) (names_bytes todo ++ rest) p o
  through_names done [] p good rising t = subst (λ n. Runs (begun (fields s c done [])) rest n o) (add-zero p) (subst (λ l. Runs (begun (fields s c l [])) rest (p + 0) o) (append-nil done) t)
  through_names done (n ∷ ns) p good rising t =
      let after = through_names (done ++ n ∷ []) ns (p + length (bytes_of (name n))) good.1 (subst (λ k. Rising k ns) (sym (next_site_push 0 done n)) rising.1)
      (subst (λ k. Runs (begun (fields s c k [])) rest (p + length (bytes_of (name n)) + length (names_bytes ns)) o) (sym (append_assoc done (n ∷ []) ns))
      (further o _ rest p (bytes_of (name n)) (names_bytes ns) t)) in
      subst (λ k. Runs (begun (fields s c done [])) k p o) (sym (append_assoc (bytes_of (name n)) (names_bytes ns) rest))
      (over (begun (fields s c done [])) (name n) (names_bytes ns ++ rest) p o (name_fits s n few good.0) (refused_none (begun (fields s c done [])) (name n) (le-leb _ _ rising.0) good.0.limits refl) after)

-- reading goes over all that came before
pub through : (b : Before) (rest : List ℕ) (o : Outcome) → LawfulBefore b → Runs b rest (length (written_before b)) o → Runs unbegun (written_before b ++ rest) 0 o
through unbegun rest o h t = t
through (begun f) rest o h t =
    let s = f.sites in
    let c = f.count in
    let top = header_limits s c h.head in
    let front = bytes_of (header s c) in
    let t1 = further o (begun f) rest (length front) (names_bytes f.names) (links_bytes f.links) (subst (λ n. Runs (begun f) rest n o) (length-append front (names_bytes f.names ++ links_bytes f.links)) t) in
    let t2 = through_links s c top.0 rest o f.names [] f.links (length front + length (names_bytes f.names)) h.links h.unused (omega (arith, h.number)) t1 in
    let t3 = through_names s c top.0 (links_bytes f.links ++ rest) o [] f.names (length front) h.names h.rising t2 in
    let t4 = over unbegun (header s c) (names_bytes f.names ++ (links_bytes f.links ++ rest)) 0 o (omega arith, omega arith) (refused_none unbegun (header s c) refl h.head refl) (subst (λ n. Runs (begun (fields s c [] [])) (names_bytes f.names ++ (links_bytes f.links ++ rest)) n o) (sym (zero-add _)) t3) in
    subst (λ l. Runs unbegun l 0 o) (sym (append_assoc front (names_bytes f.names ++ links_bytes f.links) rest ∙ ap (λ l. front ++ l) (append_assoc (names_bytes f.names) (links_bytes f.links) rest))) t4

pub runs : (bytes : List ℕ) (o : Outcome) → Means bytes o → Runs unbegun bytes 0 o
runs bytes (sheet f) m =
    subst (λ l. Runs unbegun l 0 (sheet f)) (append-nil (written f) ∙ sym m.1)
    (through (begun f) [] (sheet f) m.0.beginning (ends f (broken_end (begun f) [] refl ∙ cond-true _ _ _ (eq-eqb _ _ m.0.complete)) refl refl refl))
runs bytes (fault r p) m =
    subst (λ l. Runs unbegun l 0 (fault r p)) (sym m.split)
    (through m.before m.rest (fault r p) m.lawful (stops r m.breaks (ap (fault r) m.at_place)))

pub unique : (bytes : List ℕ) (x y : Outcome) → Means bytes x → Means bytes y → x ≡ y
unique bytes x y m n = one_outcome (runs bytes x m) (runs bytes y n)
