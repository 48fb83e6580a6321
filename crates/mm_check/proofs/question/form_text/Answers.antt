-- The text is that of the form, or the file with it.
use Rattle.mm_check.proofs.question.form_text.Goals as goal

pub returns-then-whole-clause-text : goal.returns-then-whole-clause-text
returns-then-whole-clause-text c = rw c.if-whole.true c.saved_text.ensures.text

pub returns-then-whole-clause-fault : goal.returns-then-whole-clause-fault
returns-then-whole-clause-fault c = rw c.if-whole.true c.saved_text.ensures.fault

pub returns-in-Normal-clause-text : goal.returns-in-Normal-clause-text
returns-in-Normal-clause-text c = rw (c.if-whole.false, c.in-Normal.is) c.normal_form.ensures.text

pub returns-in-Normal-clause-fault : goal.returns-in-Normal-clause-fault
returns-in-Normal-clause-fault c = rw (c.if-whole.false, c.in-Normal.is) c.normal_form.ensures.fault

pub returns-in-Packed-clause-text : goal.returns-in-Packed-clause-text
returns-in-Packed-clause-text c = rw (c.if-whole.false, c.in-Packed.is) c.packed_form.ensures.text

pub returns-in-Packed-clause-fault : goal.returns-in-Packed-clause-fault
returns-in-Packed-clause-fault c = rw (c.if-whole.false, c.in-Packed.is) c.packed_form.ensures.fault

pub returns-in-Small-clause-text : goal.returns-in-Small-clause-text
returns-in-Small-clause-text c = rw (c.if-whole.false, c.in-Small.is) c.small_form.ensures.text

pub returns-in-Small-clause-fault : goal.returns-in-Small-clause-fault
returns-in-Small-clause-fault c = rw (c.if-whole.false, c.in-Small.is) c.small_form.ensures.fault
