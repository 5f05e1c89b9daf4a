use Rattle.smi_console.proofs.node.open_and_serve.Given as goal

-- the book of the history that was just begun
abbrev pub ghosts-serve_with_board : goal.ghosts-serve_with_board
ghosts-serve_with_board g a = record { book = a.blank.seen.book }
