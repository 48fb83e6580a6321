use Rattle.mm_code.proofs.letters.+push_leading.Given as goal

-- the value falls to a fifth
abbrev pub decreases-push_leading : goal.decreases-push_leading
decreases-push_leading l = l.value
