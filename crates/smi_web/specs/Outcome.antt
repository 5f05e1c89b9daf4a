-- How an order ended, as the console says it.
use Rattle.std.specs.Prelude.{ℕ, ◌==◌, List, codes, Option, option_and_then}
use Rattle.std.specs.Prelude.{if◌then◌else◌}
use Rattle.smi_tree.specs.Number.{number_within}
use Rattle.smi_history.specs.Text.{rest_of}

-- after `told` come the words of the order, and then its code
abbrev pub code_of : List ℕ → List ℕ → Option ℕ
code_of line answer =
    option_and_then (λ order. option_and_then (λ told. option_and_then (λ behind.
    option_and_then (number_within 0 99) (rest_of (codes " ") behind))
    (rest_of order told)) (rest_of (codes "told ") answer)) (rest_of (codes "order ") line)

-- what a code means
abbrev pub words_of : ℕ → List ℕ
words_of code =
    if code == 0 then codes "done"
    else (if code == 1 then codes "a domain on the way does not accept the action"
    else (if code == 2 then codes "the target is not below the domain"
    else (if code == 3 then codes "the child is held and in that mode already"
    else (if code == 4 then codes "the child is not held"
    else (if code == 5 then codes "another one holds the domain"
    else (if code == 6 then codes "a child on the way is not held or is manual"
    else (if code == 7 then codes "a million commands were given to a child under one grant"
    else (if code == 8 then codes "ended, and how was not seen"
    else (if code == 9 then codes "the domain's epochs are used up"
    else (if code == 21 then codes "the operator does not hold the domain"
    else (if code == 22 then codes "a command on the domain is not answered yet"
    else (if code == 23 then codes "the operator holds the domain already, or takes it or gives it back"
    else (if code == 24 then codes "a million commands were given under this grant"
    else (if code == 25 then codes "the operator holds or waits for sixteen domains"
    else (if code == 26 then codes "nothing of that name is there"
    else (if code == 31 then codes "the store did not save it"
    else (if code == 32 then codes "the station has stopped"
    else (if code == 33 then codes "the node is out of memory"
    else codes "unknown"))))))))))))))))))
