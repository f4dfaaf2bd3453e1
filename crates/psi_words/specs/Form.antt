-- The forms of words, as the code has them.
use Rattle.std.specs.Prelude.{List, map}
use Rattle.psi_words.specs.Words.{Form as Test, Forms, alone, are_sizes, is_count, is_name, is_output, is_seed, is_session, is_shared}
use Rattle.psi_words.specs.declared.form.CommandForms.{CommandForms}
use Rattle.psi_words.specs.declared.form.Form.{Form}
use Rattle.psi_words.specs.declared.form.Form.TheVariants.{Count, Name, Output, Seed, Session, Shared, Sizes}

-- the test that a word of this form passes, at its place among all words
abbrev pub test_of : Form → Test
test_of Name = alone is_name
test_of (Output from to) = is_output from to
test_of Seed = alone is_seed
test_of Session = alone is_session
test_of Sizes = alone are_sizes
test_of Count = alone is_count
test_of Shared = is_shared

-- the tests of forms
abbrev pub tests_of : List Form → List Test
tests_of forms = map test_of forms

-- the tests of the forms of a command
abbrev pub forms_seen : CommandForms → Forms
forms_seen forms = record { needed = tests_of forms.needed.now; optional = tests_of forms.optional.now }
