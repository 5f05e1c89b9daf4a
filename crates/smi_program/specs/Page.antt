-- The page with which orders may be given.
use Rattle.std.specs.Prelude.{ℕ, ◌++◌, List, codes}
use Rattle.smi_program.specs.declared.orders.TheConstants.{ORDERS}
use Rattle.smi_program.specs.declared.page.TheConstants.{PAGE}

-- the script that has the key
abbrev pub script_of : List ℕ → List ℕ
script_of key = codes "<script>const KEY = \"" ++ key ++ codes "\";</script>\n"

-- a page, the key that it has to show, and what it has more
abbrev pub with_orders : (page key orders : List ℕ) → List ℕ
with_orders page key orders = page ++ script_of key ++ orders

-- the page of the screen, and after it the script by which it is told a style
abbrev pub page_with_style : List ℕ → List ℕ
page_with_style style = PAGE.now ++ style

-- a page of the screen with which orders may be given by this key
abbrev pub page_with_orders : (page key : List ℕ) → List ℕ
page_with_orders page key = with_orders page key ORDERS.now
