-- The reply is that to the question of the command.
use Rattle.mm_check.proofs.command.reply_to.Goals as goal

pub find_reply-requires : goal.find_reply-requires
find_reply-requires g c = rw c.in-Find.is at c.requires

pub returns-in-Whole : goal.returns-in-Whole
returns-in-Whole g c = rw c.in-Whole.is c.whole_reply.ensures

pub returns-in-About : goal.returns-in-About
returns-in-About g c = rw c.in-About.is c.about_reply.ensures

pub returns-in-File : goal.returns-in-File
returns-in-File g c = rw c.in-File.is c.all_saved_reply.ensures

pub returns-in-Shorter : goal.returns-in-Shorter
returns-in-Shorter g c = rw c.in-Shorter.is c.checked_reply.ensures

pub returns-in-Lemmas : goal.returns-in-Lemmas
returns-in-Lemmas g c = rw c.in-Lemmas.is c.lemmas_reply.ensures

pub returns-in-Find : goal.returns-in-Find
returns-in-Find g c = rw c.in-Find.is c.find_reply.ensures
