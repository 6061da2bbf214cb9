-- The steps of the search in the code, against the search as a function.
use Rattle.std.proofs.Common.{◌≡◌, ℕ, zero, suc, ◌+◌, ◌<◌, ◌≤◌, true, false, List, [], ◌∷◌, ◌++◌, map, length, get_or, take, drop, set, Some, None, Ok, Err, IsOk, Result, fold, Option, sym, refl, ap, ◌∙◌, subst, arith}
use Rattle.costing.specs.Stacks.{Held, room, PutOn, TakenOff}
use Rattle.costing.proofs.Stacked.{taken_put}
use Rattle.std.specs.Option.{option_map}
use Rattle.std.specs.List.{slice_get}
use Rattle.std.proofs.lemmas.List.{drop_all, take_all, take-take, take-set, take_more, take_more_set, length-take-le, get_or-map, map-append, length-map}
use Rattle.draft.specs.Book.{Noted, Book}
use Rattle.draft.proofs.Holding.{entered_count, held_length, held_book, read_there}
use Rattle.draft.specs.Held.{entered_tones, Holds, book_of}
use Rattle.draft.specs.Reading.{candidates_in, bound_in}
use Rattle.draft.proofs.Reading.{bound_there}
use Rattle.draft.specs.declared.draft.Draft.{Draft}
use Rattle.ratio.specs.declared.ratio.Ratio.{Ratio}
use Rattle.std.specs.List.{enumerate_from}
use Rattle.settling.specs.Explore.{counted, beaten, row, explore, step}
use Rattle.settling.specs.Posed.{rows, problem}
use Rattle.settling.specs.Searching.{ratios, numbers, seen, found, searched, Went, Overspent}
use Rattle.settling.specs.Settling.{Costing}
use Rattle.settling.specs.declared.search.Best.{Best}
use Rattle.settling.specs.declared.search.Laid.{Laid}
use Rattle.settling.specs.declared.search.Search.{Search}
use Rattle.settling.proofs.Explore.{explore_beaten, explore_end}
use Rattle.settling.proofs.Steps.{stepped_all, stepped_none, stepped_some, spent_here, spent_below}

-- the tone that is read is the next row
rows_at : (ns : List Noted) (k : ℕ) (cs : List Ratio) → option_map (λ n. n.candidates) (slice_get ns k) ≡ Some cs → drop k (map (λ n. n.candidates) ns) ≡ cs ∷ drop (k + 1) (map (λ n. n.candidates) ns)
rows_at [] k cs e = absurd (let z : ◌≡◌ {A = ℕ} 0 1 = cc in omega arith)
rows_at (n ∷ ns) zero cs e = let is : n.candidates ≡ cs = cc in ap (λ x. x ∷ map (λ n. n.candidates) ns) is
rows_at (n ∷ ns) (suc k) cs e =
    let one : suc k + 1 ≡ suc (k + 1) = omega arith in
    rows_at ns k cs e ∙ ap (λ j. cs ∷ drop j (map (λ n. n.candidates) (n ∷ ns))) (sym one)

pub next_row : (b : Book) (k : ℕ) (cs : List Ratio) → candidates_in b k ≡ Some cs → drop k (rows b) ≡ cs ∷ drop (k + 1) (rows b)
next_row b k cs e = rows_at b.tones k cs e

rows_past : (ns : List Noted) (k : ℕ) → option_map (λ n. n.candidates) (slice_get ns k) ≡ None → (drop k (map (λ n. n.candidates) ns) ≡ []) × (length ns ≤ k)
rows_past [] k e = (drop_all k [] (omega arith), omega arith)
rows_past (n ∷ ns) zero e = absurd (let z : ◌≡◌ {A = ℕ} 0 1 = cc in omega arith)
rows_past (n ∷ ns) (suc k) e = let r = rows_past ns k e in (r.0, omega (arith, r.1))

pub no_row : (b : Book) (k : ℕ) → candidates_in b k ≡ None → (drop k (rows b) ≡ []) × (length b.tones ≤ k)
no_row b k e = rows_past b.tones k e

pub few_tones : (d : Draft) → length (entered_tones d) ≤ 32
few_tones d =
    let few = d.tones.few in
    omega (arith, entered_count d)

-- a tone whose candidates are read is one of the draft's
pub there : {d : Draft} {k : ℕ} {cs : List Ratio} → ((b : Book) → Holds d b → Some cs ≡ candidates_in b k) → (k < length (entered_tones d)) × (k < 32) × (length cs ≤ 8)
there {d} {k} {cs} read =
    let r = read_there d k cs (sym (read (book_of d) (held_book d))) in
    let few = d.tones.few in
    (omega (arith, r.0, entered_count d), omega (arith, r.0), r.1)

-- the first candidates of tone k are tried, from the start that is laid at the entry
pub record Trying {V : Type 0} (dist : Ratio → Ratio → ℕ) (c : Costing V) (d : Draft) (allowance k : ℕ) (v : V) (cs : List Ratio) (number : ℕ) (entry now : Search V) : Type 0 where
  pub laid : take k now.laid ≡ take k entry.laid
  pub costs : now.costs.values ≡ entry.costs.values
  pub size : room now.costs ≡ room entry.costs
  pub within : now.trials ≤ allowance
  pub unbeaten : (n : ℕ) → beaten c (seen n entry.best) v ≡ false
  pub finds : (b : Book) → Holds d b
      → found (length b.tones) now ≡ fold (step (problem dist b) c (drop (k + 1) (rows b)) (ratios (take k entry.laid)) (numbers (take k entry.laid)) v) (found (length b.tones) entry) (take number (enumerate_from 0 cs))

shorter : {A : Type 0} (k : ℕ) (xs ys : List A) → take (k + 1) xs ≡ take (k + 1) ys → take k xs ≡ take k ys
shorter k xs ys e = sym (take-take k (k + 1) xs (omega arith)) ∙ (ap (take k) e ∙ take-take k (k + 1) ys (omega arith))

module _ {V : Type 0} (c : Costing V) (v : V) {found_best : Option (Best V)} where
  pub beaten_some : {best : Best V} → found_best ≡ Some best → (n : ℕ) → beaten c (seen n found_best) v ≡ c.no_more best.cost v
  beaten_some e n = ap (λ o. beaten c (seen n o) v) e

  pub beaten_none : found_best ≡ None → (n : ℕ) → beaten c (seen n found_best) v ≡ false
  beaten_none e n = ap (λ o. beaten c (seen n o) v) e

-- the search of the whole row, as the search below the start
whole : {V : Type 0} (dist : Ratio → Ratio → ℕ) (c : Costing V) (k : ℕ) (v : V) (cs : List Ratio) (entry : Search V) (b : Book) → Some cs ≡ candidates_in b k
    → searched dist c b k v entry ≡ explore (problem dist b) c (cs ∷ drop (k + 1) (rows b)) (ratios (take k entry.laid)) (numbers (take k entry.laid)) v (found (length b.tones) entry)
whole dist c k v cs entry b read = ap (λ rest. explore (problem dist b) c rest (ratios (take k entry.laid)) (numbers (take k entry.laid)) v (found (length b.tones) entry)) (next_row b k cs (sym read))

-- ---- the numbers of what is laid, written to a sheet one after another

-- one number more
pub written_on : (items : List Laid) (sheet : List ℕ) {e : ℕ} (l : Laid) → e < length items → l ≡ get_or items e l → e < length sheet → take e sheet ≡ take e (numbers items)
    → take (e + 1) (set sheet e l.number) ≡ take (e + 1) (numbers items)
written_on items sheet {e} l inside is room_left same =
    let at : l.number ≡ get_or (numbers items) e l.number = ap (λ (l : Laid). l.number) is ∙ sym (get_or-map (λ (l : Laid). l.number) items e l l.number inside) in
    let more = take_more (numbers items) e l.number (omega (arith, length-map items (λ (l : Laid). l.number))) in
    take_more_set sheet e l.number room_left ∙ (ap (λ ns. ns ++ (l.number ∷ [])) same ∙ (ap (λ n. take e (numbers items) ++ (n ∷ [])) at ∙ sym more))

-- all of them
pub written_all : (laid : List Laid) (k : ℕ) → k ≤ length laid → (sheet : List ℕ) {e : ℕ} → take e sheet ≡ take e (numbers (take k laid)) → e ≤ length (take k laid) → length (take k laid) ≤ e → take k sheet ≡ numbers (take k laid)
written_all laid k long sheet {e} same most least =
    let ends : e ≡ k = omega (arith, length-take-le k laid long) in
    let size = length-map (take k laid) (λ (l : Laid). l.number) in
    ap (λ n. take n sheet) (sym ends) ∙ (same ∙ take_all e (numbers (take k laid)) (omega arith))

module _ {V : Type 0} {dist : Ratio → Ratio → ℕ} {c : Costing V} {d : Draft} {allowance k : ℕ} {v : V} where
  -- ---- a start that is left at once, and one with every tone laid

  pub went_beaten : {s : Search V} {best : Best V} → s.best ≡ Some best → c.no_more best.cost v ≡ true → s.trials ≤ allowance → Went dist c d allowance k v s s
  went_beaten {s} {best} e more within = record {
    laid = refl;
    costs = refl;
    size = refl;
    within = within;
    finds = λ b h. sym (explore_beaten (problem dist b) c (drop k (rows b)) (ratios (take k s.laid)) (numbers (take k s.laid)) v (found (length b.tones) s) (beaten_some c v e (length b.tones) ∙ more));
  }

  pub went_end : {s s' : Search V} {sheet : List ℕ} → take k sheet ≡ numbers (take k s.laid) → s'.laid ≡ s.laid → s'.costs ≡ s.costs → s'.best ≡ Some (record { cost = v; sheet = sheet }) → s'.trials ≡ s.trials
      → ((n : ℕ) → beaten c (seen n s.best) v ≡ false) → ((b : Book) → Holds d b → None ≡ candidates_in b k) → s.trials ≤ allowance → k ≤ length (entered_tones d) → Went dist c d allowance k v s s'
  went_end {s} {s'} {sheet} written laid costs best trials unbeaten none within few = record {
    laid = ap (take k) laid;
    costs = ap (λ (h : Held V). h.values) costs;
    size = ap room costs;
    within = omega arith;
    finds = λ b h.
        let n : ℕ = length b.tones in
        let past = no_row b k (sym (none b h)) in
        let same : n ≡ k = omega (arith, past.1, held_length d b h) in
        let front : take n sheet ≡ numbers (take k s.laid) = ap (λ m. take m sheet) same ∙ written in
        let end = explore_end (problem dist b) c (ratios (take k s.laid)) (numbers (take k s.laid)) v (found n s) (unbeaten n) in
        let here = ap (λ rest. explore (problem dist b) c rest (ratios (take k s.laid)) (numbers (take k s.laid)) v (found n s)) past.0 in
        let is : found n s' ≡ record { best = Some (v, numbers (take k s.laid)); trials = s.trials } = λ i. record { best = (ap (seen n) best ∙ ap (λ ns. Some (v, ns)) front) i; trials = trials i } in
        is ∙ (sym end ∙ sym here);
  }

  -- ---- the candidates of the next tone, one after another

  module _ {cs : List Ratio} (read : (b : Book) → Holds d b → Some cs ≡ candidates_in b k) {entry : Search V} where
    module _ {number : ℕ} {s : Search V} (trying : Trying dist c d allowance k v cs number entry s) where
      pub trying_all : length cs ≤ number → Went dist c d allowance k v entry s
      trying_all over = record {
        laid = trying.laid;
        costs = trying.costs;
        size = trying.size;
        within = trying.within;
        finds = λ b h.
            let n : ℕ = length b.tones in
            trying.finds b h
            ∙ (stepped_all (problem dist b) c (drop (k + 1) (rows b)) (ratios (take k entry.laid)) (numbers (take k entry.laid)) v (found n entry) cs number over (trying.unbeaten n) ∙ sym (whole dist c k v cs entry b (read b h)));
      }

      module _ {x : Ratio} (listed : number < length cs) (is : x ≡ get_or cs number x) where
        pub spent_now : s.trials ≡ allowance → Overspent dist c d allowance k v entry
        spent_now full = record {
          over = λ b h.
              let n : ℕ = length b.tones in
              let past = spent_here (problem dist b) c (drop (k + 1) (rows b)) (ratios (take k entry.laid)) (numbers (take k entry.laid)) v (found n entry) (found n s) cs number allowance x listed is (trying.finds b h) (trying.unbeaten n) (omega arith) in
              subst (λ f. allowance < f.trials) (sym (whole dist c k v cs entry b (read b h))) past;
        }

        module _ (long : k ≤ length s.laid) where
          -- a row of pairs from the ratios that are laid
          laid_row : (b : Book) (o : Option V) → row (problem dist b) c k x 0 (ratios (take k s.laid)) v ≡ o
              → row (problem dist b) c (length (ratios (take k entry.laid))) x 0 (ratios (take k entry.laid)) v ≡ o
          laid_row b o e =
              let front = ap ratios trying.laid in
              let size : length (ratios (take k entry.laid)) ≡ k = ap length (sym front) ∙ (length-map (take k s.laid) (λ (l : Laid). l.ratio) ∙ length-take-le k s.laid long) in
              ap (λ m. row (problem dist b) c m x 0 (ratios (take k entry.laid)) v) size ∙ (ap (λ xs. row (problem dist b) c k x 0 xs v) (sym front) ∙ e)

          pub trying_broken : {s' : Search V} → s'.laid ≡ s.laid → s'.costs ≡ s.costs → s'.best ≡ s.best → s'.trials ≡ s.trials + 1 → s.trials < allowance
              → ((b : Book) → Holds d b → row (problem dist b) c k x 0 (ratios (take k s.laid)) v ≡ None) → Trying dist c d allowance k v cs (number + 1) entry s'
          trying_broken {s'} laid costs best trials room_left none = record {
            laid = ap (take k) laid ∙ trying.laid;
            costs = ap (λ (h : Held V). h.values) costs ∙ trying.costs;
            size = ap room costs ∙ trying.size;
            within = omega arith;
            unbeaten = trying.unbeaten;
            finds = λ b h.
                let n : ℕ = length b.tones in
                let more : found n s' ≡ counted (found n s) = cc (ap (seen n) best, trials) in
                more ∙ stepped_none (problem dist b) c (drop (k + 1) (rows b)) (ratios (take k entry.laid)) (numbers (take k entry.laid)) v (found n entry) (found n s) cs number x listed is (trying.finds b h) (laid_row b None (none b h));
          }

          module _ {w : V} (kept : (b : Book) → Holds d b → row (problem dist b) c k x 0 (ratios (take k s.laid)) v ≡ Some w)
              (s₁ : Search V) (laid₁ : s₁.laid ≡ set s.laid k (record { ratio = x; number = number })) (best₁ : s₁.best ≡ s.best) (trials₁ : s₁.trials ≡ s.trials + 1)
              (in_laid : k < length s.laid) where
            -- what is laid with the candidate
            front : take (k + 1) s₁.laid ≡ take k entry.laid ++ (record { ratio = x; number = number } ∷ [])
            front =
                let l : Laid = record { ratio = x; number = number } in
                ap (take (k + 1)) laid₁ ∙ (take_more_set s.laid k l in_laid ∙ ap (λ ls. ls ++ (l ∷ [])) trying.laid)

            -- the search below the candidate, as the function has it
            child : (b : Book) → Holds d b
                → searched dist c b (k + 1) w s₁ ≡ explore (problem dist b) c (drop (k + 1) (rows b)) (ratios (take k entry.laid) ++ (x ∷ [])) (numbers (take k entry.laid) ++ (number ∷ [])) w (counted (found (length b.tones) s))
            child b h =
                let n : ℕ = length b.tones in
                let l : Laid = record { ratio = x; number = number } in
                let more : found n s₁ ≡ counted (found n s) = cc (ap (seen n) best₁, trials₁) in
                let xs : ratios (take (k + 1) s₁.laid) ≡ ratios (take k entry.laid) ++ (x ∷ []) = ap ratios front ∙ map-append (λ (l : Laid). l.ratio) (take k entry.laid) (l ∷ []) in
                let ns : numbers (take (k + 1) s₁.laid) ≡ numbers (take k entry.laid) ++ (number ∷ []) = ap numbers front ∙ map-append (λ (l : Laid). l.number) (take k entry.laid) (l ∷ []) in
                ap (λ ys. explore (problem dist b) c (drop (k + 1) (rows b)) ys (numbers (take (k + 1) s₁.laid)) w (found n s₁)) xs
                ∙ (ap (λ ms. explore (problem dist b) c (drop (k + 1) (rows b)) (ratios (take k entry.laid) ++ (x ∷ [])) ms w (found n s₁)) ns
                ∙ ap (explore (problem dist b) c (drop (k + 1) (rows b)) (ratios (take k entry.laid) ++ (x ∷ [])) (numbers (take k entry.laid) ++ (number ∷ [])) w) more)

            pub spent_child : Overspent dist c d allowance (k + 1) w s₁ → Overspent dist c d allowance k v entry
            spent_child child_over = record {
              over = λ b h.
                  let n : ℕ = length b.tones in
                  let more : allowance < (explore (problem dist b) c (drop (k + 1) (rows b)) (ratios (take k entry.laid) ++ (x ∷ [])) (numbers (take k entry.laid) ++ (number ∷ [])) w (counted (found n s))).trials = subst (λ f. allowance < f.trials) (child b h) (child_over.over b h) in
                  let all_of = spent_below (problem dist b) c (drop (k + 1) (rows b)) (ratios (take k entry.laid)) (numbers (take k entry.laid)) v (found n entry) (found n s) cs number allowance x w listed is (trying.finds b h) (trying.unbeaten n) (laid_row b (Some w) (kept b h)) more in
                  subst (λ f. allowance < f.trials) (sym (whole dist c k v cs entry b (read b h))) all_of;
            }

            pub trying_on : {s₂ s₃ : Search V} → Went dist c d allowance (k + 1) w s₁ s₂ → s₃.laid ≡ s₂.laid → s₃.best ≡ s₂.best → s₃.trials ≡ s₂.trials → s₃.costs.values ≡ s.costs.values → room s₃.costs ≡ room s.costs
                → Trying dist c d allowance k v cs (number + 1) entry s₃
            trying_on {s₂} {s₃} went laid best trials costs size = record {
              laid = ap (take k) laid ∙ (shorter k s₂.laid s₁.laid went.laid ∙ (ap (take k) laid₁ ∙ (take-set s.laid k (record { ratio = x; number = number }) ∙ trying.laid)));
              costs = costs ∙ trying.costs;
              size = size ∙ trying.size;
              within = omega (arith, went.within);
              unbeaten = trying.unbeaten;
              finds = λ b h.
                  let n : ℕ = length b.tones in
                  let same : found n s₃ ≡ found n s₂ = cc (ap (seen n) best, trials) in
                  same ∙ (went.finds b h
                  ∙ (child b h ∙ stepped_some (problem dist b) c (drop (k + 1) (rows b)) (ratios (take k entry.laid)) (numbers (take k entry.laid)) v (found n entry) (found n s) cs number x w listed is (trying.finds b h) (laid_row b (Some w) (kept b h))));
            }

-- ---- a cost by another name

module _ {V : Type 0} {dist : Ratio → Ratio → ℕ} {c : Costing V} {d : Draft} {allowance k : ℕ} {u v : V} (same : u ≡ v) {before : Search V} where
  pub went_of : {after : Search V} → Went dist c d allowance k u before after → Went dist c d allowance k v before after
  went_of {after} went = subst (λ w. Went dist c d allowance k w before after) same went

  pub overspent_of : Overspent dist c d allowance k u before → Overspent dist c d allowance k v before
  overspent_of over = subst (λ w. Overspent dist c d allowance k w before) same over

-- ---- one pair

-- of the ratios laid before tone k
module _ (laid : List Laid) (k : ℕ) (long : k ≤ length laid) where
  pub many_laid : length (ratios (take k laid)) ≡ k
  many_laid = length-map (take k laid) (λ (l : Laid). l.ratio) ∙ length-take-le k laid long

  pub laid_before : {e : ℕ} → e < length (take k laid) → e < k
  laid_before inside = omega (arith, length-take-le k laid long)

  pub laid_at : {e : ℕ} (l : Laid) → e < length (take k laid) → l ≡ get_or (take k laid) e l → l.ratio ≡ get_or (ratios (take k laid)) e l.ratio
  laid_at {e} l inside is = ap (λ (l : Laid). l.ratio) is ∙ sym (get_or-map (λ (l : Laid). l.ratio) (take k laid) e l l.ratio inside)

apart : (e k : ℕ) → e < k → e ≡ k → ⊥
apart e k less same = omega arith

module _ {d : Draft} {e k : ℕ} (less : e < k) (in_draft : k < length (entered_tones d)) where
  -- the bound that is read is the book's
  pub bound_read : {x : ℕ} → ((b : Book) → Holds d b → Some x ≡ bound_in b e k) → (b : Book) → Holds d b → x ≡ b.bound e k
  bound_read read b h =
      let same = held_length d b h in
      let is = read b h in
      let at = bound_there b e k (apart e k less) (omega arith) (omega arith) in
      cc

  pub bound_some : ((b : Book) → Holds d b → ◌≡◌ {A = Option ℕ} None (bound_in b e k)) → ⊥
  bound_some read =
      let b = book_of d in
      let same = held_length d b (held_book d) in
      let is = read b (held_book d) in
      let at = bound_there b e k (apart e k less) (omega arith) (omega arith) in
      let z : ◌≡◌ {A = ℕ} 0 1 = cc in
      omega arith

-- ---- the stack

-- the value that is taken off the top is the last
pub on_top : {V : Type 0} {r : Option V} {xs : List V} (rest : List V) {u : V} → r ≡ Some u → TakenOff r xs rest → (past : List V) (v : V) → xs ≡ past ++ (v ∷ []) → u ≡ v
on_top {r = r} {xs = xs} rest is taken past v put = let same = (taken_put r past xs rest v put taken).0 in cc

-- there is room, so the value is put on
pub room_left : {U E V : Type 0} (r : Result U E) (n : ℕ) (v : V) (before after : List V) → PutOn r n v before after → length before < n → IsOk r × (after ≡ before ++ (v ∷ []))
room_left (Ok u) n v before after put less = (refl, put)
room_left (Err e) n v before after put less = absurd (omega (arith, put.0))

-- there is room for the cost with one candidate more
pub cost_on : {U E V : Type 0} {dist : Ratio → Ratio → ℕ} {c : Costing V} {d : Draft} {allowance k : ℕ} {v : V} {cs : List Ratio} {number : ℕ} {entry now : Search V} → Trying dist c d allowance k v cs number entry now
    → length entry.costs.values ≡ k + 1 → k < 32 → 33 ≤ room entry.costs → (r : Result U E) (w : V) {after : List V} → PutOn r (room now.costs) w now.costs.values after → IsOk r × (after ≡ now.costs.values ++ (w ∷ []))
cost_on {now = now} trying height small wide r w {after} put =
    room_left r (room now.costs) w now.costs.values after put (omega (arith, trying.size, ap length trying.costs))

-- the first value on an empty stack
pub first_on : {U E V : Type 0} (r : Result U E) {n : ℕ} {v nil : V} {before after : List V} → PutOn r n v before after → before ≡ [] → v ≡ nil → 0 < n → after ≡ nil ∷ []
first_on r {n} {v} {nil} {before} {after} put empty is less =
    let on = room_left r n v before after put (omega (arith, ap length empty)) in
    on.1 ∙ (ap (λ xs. xs ++ (v ∷ [])) empty ∙ ap (λ w. w ∷ []) is)
