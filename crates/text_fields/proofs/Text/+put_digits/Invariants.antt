-- The digits before the last are written first.
use Rattle.text_fields.proofs.Text.+put_digits.Given as goal

abbrev pub decreases-put_digits : goal.decreases-put_digits
decreases-put_digits l = l.left
