-- W, how many facts a table may have: it fits the machine's numbers for any sizes that are bytes, and of a sound table it is at most `most_facts`.
use Prim.Native.Nat.{ℕ, ◌+◌, ◌*◌, ◌≤◌}
use native.Mathlib.Numerals.{bound}
use native.Mathlib.Bridge.{le_by_compare, IsLe}
use Rattle.files.specs.Table.{Table, Sound, w_of, W, most_facts}

-- ---- for sizes that are bytes, part by part

pub square_small : (k : ℕ) → k ≤ 255 → k * k ≤ 65025
unfolding IsLe
square_small k h = grw (bound, h, h) (le_by_compare _ _ tt)

pub threads_small : (n s : ℕ) → n ≤ 255 → s ≤ 65025 → n * s ≤ 16581375
unfolding IsLe
threads_small n s h i = grw (bound, h, i) (le_by_compare _ _ tt)

pub frames_small : (s F : ℕ) → s ≤ 65025 → F ≤ 255 → s * (1 + F) ≤ 16646400
unfolding IsLe
frames_small s F h i = grw (bound, h, i) (le_by_compare _ _ tt)

pub w_small : (a b : ℕ) → a ≤ 16581375 → b ≤ 16646400 → a * (1 + b) ≤ 276020217381375
unfolding IsLe
w_small a b h i = grw (bound, h, i) (le_by_compare _ _ tt)

-- ---- for a sound table

pub W_max : (T : Table) → Sound T → W T ≤ most_facts
unfolding W w_of IsLe
W_max T s =
    let n = s.n.1 in
    let g = s.G.1 in
    let l = s.L.1 in
    grw (bound, n, g, g, l, l, s.F) (le_by_compare _ _ tt)
