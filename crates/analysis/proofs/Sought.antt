-- Going through a core's rows for their windows: those of the rows seen are kept, and the highest row without one. Assumes nothing.
use Prim.Native.Nat.{ℕ, ◌+◌, ◌≤◌}
use native.Mathlib.Numerals.{add-one}
use native.Mathlib.Omega.{arith}
use mathlib.Core.Path.{◌≡◌, refl, sym, ap, ◌∙◌}
use mathlib.Core.Bool.{Bool, true}
use mathlib.Core.List.Memᴰ
use mathlib.Core.List.{List, [], ◌∷◌, ◌++◌, map, map-append}
use mathlib.Core.Option as M
use lib.ListN.{length, take, length-map, length-take}
use lib.Seq.{take_all}
use Rattle.std.specs.Prelude.{Option, Some, None}
use Rattle.lists.specs.Lists.{◌∈◌, Place, keep}
use Rattle.lists.proofs.Drops.{place_take}
use Rattle.lists.proofs.Keep.{keep-length, keep_snoc}
use Rattle.model.specs.Least.{found, value}
use Rattle.model.specs.Task.{Task}
use Rattle.model.specs.Verdict.{AllWindows}
use Rattle.model.specs.Bounds.{highest, window}
use Rattle.table.specs.declared.Row.{Row}
use Rattle.table.specs.Memory.{row_of}
use Rattle.table.specs.declared.Verdict.TheVariants.{NoWindow}
use Rattle.analysis.specs.Promises.{window_length, lacks, higher_row, top_of}
use Rattle.analysis.proofs.Tops.{top_next, top_stays, top_none, top_some}
use Rattle.analysis.proofs.Said.{lacks_none}

-- a row that has a window
abbrev has : List Task → Task → Bool
has rows t = found (window rows t)

-- where each passes, all are kept
keep_all : (p : Task → Bool) (rows : List Task) → ((t : Task) → t ∈ rows → p t ≡ true) → keep p rows ≡ rows
unfolding keep
keep_all p [] h = refl
keep_all p (t ∷ ts) h = rw (h t (Memᴰ.head refl)) (ap (◌∷◌ t) (keep_all p ts (λ u m. h u (Memᴰ.tail m))))

pub record Sought (rows : List Task) (lengths : List ℕ) (top : Option Row) (i : ℕ) : Type 0 where
  pub kept : lengths ≡ map (window_length rows) (keep (has rows) (take i rows))
  pub named : top ≡ top_of (highest (lacks rows) (take i rows))

-- at first no row is seen
pub none_sought : (rows : List Task) {ls : List ℕ} → ls ≡ [] → Sought rows ls None 0
unfolding highest top_of keep
none_sought rows e = record { kept = e; named = refl }

module _ {rows : List Task} {ls : List ℕ} {top : Option Row} {i : ℕ} (s : Sought rows ls top i) where
  -- no more are kept than are seen
  pub kept_few : length ls ≤ i
  kept_few =
      let seen : List Task = take i rows in
      omega (
        arith,
        ap length s.kept,
        length-map (keep (has rows) seen) (window_length rows),
        keep-length (has rows) seen,
        length-take i rows,
      )

  module _ (t : Task) (p : Place rows i t) where
    -- the next row comes behind those that are seen
    through : take (i + 1) rows ≡ take i rows ++ (t ∷ [])
    through = rw add-one (place_take rows i t p)

    -- a window is kept behind the others
    pub has_next : {w : ℕ} → window rows t ≡ Some w → {ls' : List ℕ} → ls' ≡ ls ++ (w ∷ []) → {top' : Option Row} → top' ≡ top
        → Sought rows ls' top' (i + 1)
    unfolding lacks found window_length value
    has_next {w = w} e more same =
        let length_is : window_length rows t ≡ w = rw e in
        record {
          kept = more ∙ rw (s.kept, through, keep_snoc, e, map-append, e);
          named = same ∙ rw through (top_stays (lacks rows) (take i rows) t s.named (rw e));
        }

    -- a row without one is looked at
    pub lacks_next : window rows t ≡ None → {row : Row} → row ≡ row_of t → {ls' : List ℕ} → ls' ≡ ls
        → {top' : Option Row} → top' ≡ higher_row top row → Sought rows ls' top' (i + 1)
    unfolding lacks found
    lacks_next e own same is =
        record {
          kept = same ∙ s.kept ∙ rw (through, keep_snoc, e);
          named = rw through (top_next (lacks rows) (take i rows) t s.named (rw e) own is);
        }

  module _ (past : length rows ≤ i) where
    -- past the last row all are seen
    all : take i rows ≡ rows
    all = take_all i rows past

    -- and the highest without a window is known
    pub one_lacks : {r : Row} → top ≡ Some r → (t : Task) × (highest (lacks rows) rows ≡ M.some t) × (NoWindow r.id ≡ NoWindow t.id)
    one_lacks e =
        let w = top_some (highest (lacks rows) rows) (rw all at (sym s.named ∙ e)) in
        (w.0, w.1, ap (λ (x : Row). NoWindow x.id) w.2)

    -- or each has one, and all are kept
    pub none_lacks : top ≡ None → AllWindows rows × (ls ≡ map (window_length rows) rows)
    unfolding found
    none_lacks e =
        let none : highest (lacks rows) rows ≡ M.none = top_none _ (rw all at (sym s.named ∙ e)) in
        let w = lacks_none rows none in
        (w, s.kept ∙ rw (all, keep_all (has rows) rows (λ t m. rw (w t m).1)))
