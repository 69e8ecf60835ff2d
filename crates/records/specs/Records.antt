-- Windows of owner, offset and budget, rows of partition, base, size and access (document 01, "A plan"). They stand in flat lists, record i of
-- width w at i * w; a number past a list's end is taken for 0.
use Rattle.std.specs.Prelude.{List, ℕ, zero, suc, ◌+◌, ◌*◌, ◌^◌, ◌<◌, get_or}
use Rattle.records.specs.declared.Window.{Window}
use Rattle.records.specs.declared.Row.{Row}

abbrev pub max_partition : ℕ
max_partition = 15

-- access: 0 read, 1 read and write, 2 read and execute
abbrev pub writable : ℕ
writable = 1

abbrev pub executable : ℕ
executable = 2

-- what a lent list of u32 holds
abbrev pub AllU32 : List ℕ → Type 0
AllU32 list = (i : ℕ) → get_or list i 0 < 2 ^ 32

-- window i of a list of windows, row i of a list of rows
abbrev pub nth_window : List ℕ → ℕ → Window
nth_window windows i =
    record {
      owner = record { 0 = get_or windows (i * 3) 0 };
      offset = get_or windows (i * 3 + 1) 0;
      budget = get_or windows (i * 3 + 2) 0;
    }

abbrev pub nth_row : List ℕ → ℕ → Row
nth_row rows i =
    record {
      partition = record { 0 = get_or rows (i * 4) 0 };
      base = get_or rows (i * 4 + 1) 0;
      size = get_or rows (i * 4 + 2) 0;
      access = get_or rows (i * 4 + 3) 0;
    }

abbrev pub end_of : Window → ℕ
end_of w = w.offset + w.budget

abbrev pub offset_in : List ℕ → ℕ → ℕ
offset_in windows i = (nth_window windows i).offset

abbrev pub budget_in : List ℕ → ℕ → ℕ
budget_in windows i = (nth_window windows i).budget

-- where window i of a list has to start: at 0, or where the one before ends
abbrev pub start_of : List ℕ → ℕ → ℕ
start_of windows zero = 0
start_of windows (suc i) = end_of (nth_window windows i)
