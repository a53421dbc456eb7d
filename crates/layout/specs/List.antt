-- Document 01, "Change list and page view", with document 02, "Eight": the offsets and lengths of the change list. Assumes nothing.
use Rattle.std.specs.Prelude.{ℕ, ◌+◌, ◌*◌}
use Rattle.layout.specs.Page.{page_size}

-- "Header of four u32"
abbrev pub list_header : ℕ
list_header = 16

-- "The change list entry grows from 8 to 12 bytes": the length of one
abbrev pub change_size : ℕ
change_size = 12

-- where entry i starts
abbrev pub change_at : ℕ → ℕ
change_at i = list_header + change_size * i

-- "the pages begin at 16+12n"
abbrev pub pages_at : ℕ → ℕ
pages_at n = list_header + change_size * n

-- "Totals become 16+4,108n"
abbrev pub list_total : ℕ → ℕ
list_total n = pages_at n + page_size * n
