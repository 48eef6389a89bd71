-- Scripts of version 4, from their bytes: each is refused with this line, or has this report.
use Rattle.std.proofs.Common.{◌≡◌, refl, List, [], ◌∷◌, codes, true, false}
use Rattle.hp_model.specs.Report.{Bytes}
use Rattle.hp_model.specs.Output.{output}
use Rattle.hp_model.proofs.Scripts.{lines}
use Rattle.hp_model.proofs.Decoding.{script_on_literals, Refuses, Reports}

-- a script is accepted, with this report, which has its trees
abbrev pub ReportsTree : (script : Bytes) → List Bytes → Type 0
ReportsTree script report = output script false true ≡ lines report

pub closed_and_its_own_veto : ReportsTree
    (codes "{\"version\":4,\"classes\":[],\"rules\":[[\"r\",[\"signal\",\"go\"],\"immediate\",[],\"immediate\",[[\"if\",[\"=\",[\"arg\",0,0],0],[[\"veto\",\"no\"]],[[\"veto\",[\"/\",1,0]]]]],\"closed\"]],\"items\":[[\"tx\",[[\"install\",\"r\"]]],[\"tx\",[[\"signal\",\"go\",[0]]]],[\"tx\",[[\"signal\",\"go\",[1]]]]]}") (codes "unit 1 committed" ∷ codes "  op install r" ∷ codes "unit 2 aborted A9 r \"no\"" ∷ codes "  fire r immediate satisfied aborted A9 r \"no\"" ∷ codes "unit 3 aborted A9 r" ∷ codes "  fire r immediate satisfied aborted A5" ∷ codes "final" ∷ codes "rule r enabled" ∷ codes "end" ∷ [])
unfolding script_on_literals
closed_and_its_own_veto = refl

pub closed_ca_detached : ReportsTree
    (codes "{\"version\":4,\"classes\":[[\"acct\",[[\"bal\",\"int\"]]]],\"rules\":[[\"s\",[\"signal\",\"go\"],\"immediate\",[],\"separate\",[[\"create\",\"acct\",1,[[\"bal\",1]]],[\"abort\"]],\"closed\"],[\"p\",[\"signal\",\"go\"],\"immediate\",[],\"dependent\",[[\"emit\",[\"new\",0,\"bal\"]]],\"closed\"],[\"x\",[\"signal\",\"go\"],\"immediate\",[],\"exclusive\",[[\"emit\",[\"now\"]],[\"delete\",\"acct\",1]],\"closed\"],[\"z\",[\"signal\",\"go\"],\"immediate\",[],\"separate\",[[\"emit\",1]]]],\"items\":[[\"tx\",[[\"install\",\"s\"],[\"install\",\"p\"],[\"install\",\"x\"],[\"install\",\"z\"]]],[\"tx\",[[\"signal\",\"go\",[]]]],[\"tx\",[[\"signal\",\"go\",[]],[\"abort\"]]]]}") (codes "unit 1 committed" ∷ codes "  op install s" ∷ codes "  op install p" ∷ codes "  op install x" ∷ codes "  op install z" ∷ codes "unit 2 committed" ∷ codes "  fire s immediate satisfied later" ∷ codes "  fire p immediate satisfied later" ∷ codes "  fire x immediate satisfied later" ∷ codes "  fire z immediate satisfied later" ∷ codes "separate s aborted A9 s" ∷ codes "  act s separate aborted A8" ∷ codes "    op create acct 1 bal=1" ∷ codes "dependent p aborted A9 p" ∷ codes "  act p dependent aborted A6" ∷ codes "separate z committed" ∷ codes "emit 1" ∷ codes "  act z separate committed" ∷ codes "    emit 1" ∷ codes "unit 3 aborted A8" ∷ codes "  fire s immediate satisfied later" ∷ codes "  fire p immediate satisfied later" ∷ codes "  fire x immediate satisfied later" ∷ codes "  fire z immediate satisfied later" ∷ codes "separate s aborted A9 s" ∷ codes "  act s separate aborted A8" ∷ codes "    op create acct 1 bal=1" ∷ codes "exclusive x aborted A9 x" ∷ codes "  act x exclusive aborted A2" ∷ codes "    emit 0" ∷ codes "separate z committed" ∷ codes "emit 1" ∷ codes "  act z separate committed" ∷ codes "    emit 1" ∷ codes "final" ∷ codes "rule s enabled" ∷ codes "rule p enabled" ∷ codes "rule x enabled" ∷ codes "rule z enabled" ∷ codes "end" ∷ [])
unfolding script_on_literals
closed_ca_detached = refl

pub closed_commit_too_deep_is_as_before : Reports
    (codes "{\"version\":4,\"classes\":[],\"rules\":[[\"r\",[\"signal\",\"go\"],\"separate\",[],\"immediate\",[[\"emit\",1]],\"closed\"],[\"z\",[\"commit\"],\"immediate\",[[\"let\",\"n\",[\"/\",1,[\"-\",[\"now\"],1]]]],\"immediate\",[],\"closed\"]],\"items\":[[\"tx\",[[\"install\",\"r\"],[\"install\",\"z\"]]],[\"tx\",[[\"signal\",\"go\",[]]]]],\"depth\":1}") (codes "unit 1 committed" ∷ codes "unit 2 committed" ∷ codes "separate r aborted A7" ∷ codes "final" ∷ codes "rule r enabled" ∷ codes "rule z enabled" ∷ codes "end" ∷ [])
unfolding script_on_literals
closed_commit_too_deep_is_as_before = refl

pub closed_deferred : ReportsTree
    (codes "{\"version\":4,\"classes\":[],\"rules\":[[\"r\",[\"signal\",\"go\"],\"deferred\",[[\"let\",\"z\",[\"/\",1,0]]],\"immediate\",[],\"closed\"],[\"s\",[\"signal\",\"go\"],\"deferred\",[],\"immediate\",[[\"emit\",2]]],[\"a\",[\"signal\",\"go\"],\"deferred\",[],\"immediate\",[[\"emit\",1],[\"signal\",\"on\",[]]]],[\"b\",[\"signal\",\"on\"],\"separate\",[],\"immediate\",[[\"emit\",3]]]],\"items\":[[\"tx\",[[\"install\",\"r\"],[\"install\",\"s\"]]],[\"tx\",[[\"sub\",[[\"signal\",\"go\",[]]],[[\"emit\",\"o\"]]],[\"emit\",0]]],[\"tx\",[[\"disable\",\"r\"],[\"install\",\"a\"],[\"install\",\"b\"],[\"signal\",\"go\",[]]]],[\"tx\",[[\"enable\",\"r\"],[\"signal\",\"go\",[]]]]]}") (codes "unit 1 committed" ∷ codes "  op install r" ∷ codes "  op install s" ∷ codes "unit 2 aborted A9 r" ∷ codes "  sub committed" ∷ codes "  emit 0" ∷ codes "  fire r deferred fault A5 none" ∷ codes "unit 3 committed" ∷ codes "emit 2" ∷ codes "emit 1" ∷ codes "  op disable r" ∷ codes "  op install a" ∷ codes "  op install b" ∷ codes "  fire s deferred satisfied committed" ∷ codes "    emit 2" ∷ codes "  fire a deferred satisfied committed" ∷ codes "    emit 1" ∷ codes "separate b committed" ∷ codes "emit 3" ∷ codes "  fire b separate satisfied committed" ∷ codes "    emit 3" ∷ codes "unit 4 aborted A9 r" ∷ codes "  op enable r" ∷ codes "  fire r deferred fault A5 none" ∷ codes "final" ∷ codes "rule r disabled" ∷ codes "rule s enabled" ∷ codes "rule a enabled" ∷ codes "rule b enabled" ∷ codes "end" ∷ [])
unfolding script_on_literals
closed_deferred = refl

pub closed_deferred_condition_separate_action : ReportsTree
    (codes "{\"version\":4,\"classes\":[],\"rules\":[[\"q\",[\"signal\",\"go\"],\"deferred\",[[\"let\",\"n\",[\"arg\",0,0]]],\"separate\",[[\"emit\",2],[\"emit\",[\"/\",2,[\"value\",\"n\"]]]],\"closed\"]],\"items\":[[\"tx\",[[\"install\",\"q\"]]],[\"tx\",[[\"signal\",\"go\",[0]]]],[\"tx\",[[\"signal\",\"go\",[]]]]]}") (codes "unit 1 committed" ∷ codes "  op install q" ∷ codes "unit 2 committed" ∷ codes "  fire q deferred satisfied later" ∷ codes "separate q aborted A9 q" ∷ codes "  act q separate aborted A5" ∷ codes "    emit 2" ∷ codes "unit 3 aborted A9 q" ∷ codes "  fire q deferred fault A6 none" ∷ codes "final" ∷ codes "rule q enabled" ∷ codes "end" ∷ [])
unfolding script_on_literals
closed_deferred_condition_separate_action = refl

pub closed_detached_condition : ReportsTree
    (codes "{\"version\":4,\"classes\":[],\"rules\":[[\"s\",[\"signal\",\"go\"],\"separate\",[[\"let\",\"z\",[\"/\",1,0]]],\"immediate\",[],\"closed\"],[\"p\",[\"signal\",\"go\"],\"dependent\",[[\"let\",\"z\",[\"/\",1,0]]],\"immediate\",[],\"closed\"],[\"x\",[\"signal\",\"go\"],\"exclusive\",[[\"let\",\"z\",[\"/\",1,0]]],\"immediate\",[],\"closed\"],[\"z\",[\"signal\",\"go\"],\"separate\",[],\"immediate\",[[\"emit\",1]]]],\"items\":[[\"tx\",[[\"install\",\"s\"],[\"install\",\"p\"],[\"install\",\"x\"],[\"install\",\"z\"]]],[\"tx\",[[\"signal\",\"go\",[]]]],[\"tx\",[[\"signal\",\"go\",[]],[\"abort\"]]]]}") (codes "unit 1 committed" ∷ codes "  op install s" ∷ codes "  op install p" ∷ codes "  op install x" ∷ codes "  op install z" ∷ codes "unit 2 committed" ∷ codes "separate s aborted A9 s" ∷ codes "  fire s separate fault A5 none" ∷ codes "dependent p aborted A9 p" ∷ codes "  fire p dependent fault A5 none" ∷ codes "separate z committed" ∷ codes "emit 1" ∷ codes "  fire z separate satisfied committed" ∷ codes "    emit 1" ∷ codes "unit 3 aborted A8" ∷ codes "separate s aborted A9 s" ∷ codes "  fire s separate fault A5 none" ∷ codes "exclusive x aborted A9 x" ∷ codes "  fire x exclusive fault A5 none" ∷ codes "separate z committed" ∷ codes "emit 1" ∷ codes "  fire z separate satisfied committed" ∷ codes "    emit 1" ∷ codes "final" ∷ codes "rule s enabled" ∷ codes "rule p enabled" ∷ codes "rule x enabled" ∷ codes "rule z enabled" ∷ codes "end" ∷ [])
unfolding script_on_literals
closed_detached_condition = refl

pub closed_each_cause_of_an_action : Reports
    (codes "{\"version\":4,\"classes\":[[\"acct\",[[\"bal\",\"int\"]]]],\"rules\":[[\"r\",[\"signal\",\"go\"],\"immediate\",[],\"immediate\",[[\"if\",[\"=\",[\"arg\",0,0],1],[[\"create\",\"acct\",1,[[\"bal\",0]]]],[]],[\"if\",[\"=\",[\"arg\",0,0],2],[[\"update\",\"acct\",2,[[\"bal\",0]]]],[]],[\"if\",[\"=\",[\"arg\",0,0],3],[[\"emit\",[\"not\",1]]],[]],[\"if\",[\"=\",[\"arg\",0,0],4],[[\"emit\",[\"+\",9223372036854775807,1]]],[]],[\"if\",[\"=\",[\"arg\",0,0],5],[[\"emit\",[\"%\",1,0]]],[]],[\"if\",[\"=\",[\"arg\",0,0],6],[[\"emit\",[\"id\",0]]],[]],[\"if\",[\"=\",[\"arg\",0,0],8],[[\"abort\"]],[]],[\"emit\",[\"arg\",0,0]]],\"closed\"]],\"items\":[[\"tx\",[[\"install\",\"r\"],[\"create\",\"acct\",1,[[\"bal\",0]]]]],[\"tx\",[[\"sub\",[[\"signal\",\"go\",[1]]],[[\"emit\",[\"neg\",1]]]]]],[\"tx\",[[\"sub\",[[\"signal\",\"go\",[2]]],[[\"emit\",[\"neg\",2]]]]]],[\"tx\",[[\"sub\",[[\"signal\",\"go\",[3]]],[[\"emit\",[\"neg\",3]]]]]],[\"tx\",[[\"sub\",[[\"signal\",\"go\",[4]]],[[\"emit\",[\"neg\",4]]]]]],[\"tx\",[[\"sub\",[[\"signal\",\"go\",[5]]],[[\"emit\",[\"neg\",5]]]]]],[\"tx\",[[\"sub\",[[\"signal\",\"go\",[6]]],[[\"emit\",[\"neg\",6]]]]]],[\"tx\",[[\"sub\",[[\"signal\",\"go\",[7]]],[[\"emit\",[\"neg\",7]]]]]],[\"tx\",[[\"sub\",[[\"signal\",\"go\",[8]]],[[\"emit\",[\"neg\",8]]]]]],[\"tx\",[[\"sub\",[[\"signal\",\"go\",[9]]],[[\"emit\",[\"neg\",9]]]]]]]}") (codes "unit 1 committed" ∷ codes "unit 2 committed" ∷ codes "emit -1" ∷ codes "unit 3 committed" ∷ codes "emit -2" ∷ codes "unit 4 committed" ∷ codes "emit -3" ∷ codes "unit 5 committed" ∷ codes "emit -4" ∷ codes "unit 6 committed" ∷ codes "emit -5" ∷ codes "unit 7 committed" ∷ codes "emit -6" ∷ codes "unit 8 committed" ∷ codes "emit 7" ∷ codes "unit 9 committed" ∷ codes "emit -8" ∷ codes "unit 10 committed" ∷ codes "emit 9" ∷ codes "final" ∷ codes "object acct 1 bal=0" ∷ codes "rule r enabled" ∷ codes "end" ∷ [])
unfolding script_on_literals
closed_each_cause_of_an_action = refl

pub closed_fired_later : Reports
    (codes "{\"version\":4,\"classes\":[],\"rules\":[[\"d\",[\"signal\",\"go\"],\"deferred\",[],\"immediate\",[[\"abort\"]],\"closed\"],[\"s\",[\"signal\",\"go\"],\"separate\",[],\"immediate\",[[\"abort\"]],\"closed\"]],\"items\":[[\"tx\",[[\"install\",\"d\"],[\"install\",\"s\"]]],[\"tx\",[[\"sub\",[[\"fire\",\"d\"]],[[\"emit\",1]]],[\"fire\",\"s\"],[\"emit\",2]]]]}") (codes "unit 1 committed" ∷ codes "unit 2 aborted A9 d" ∷ codes "separate s aborted A9 s" ∷ codes "final" ∷ codes "rule d enabled" ∷ codes "rule s enabled" ∷ codes "end" ∷ [])
unfolding script_on_literals
closed_fired_later = refl

pub closed_in_a_moment : Reports
    (codes "{\"version\":4,\"classes\":[],\"rules\":[[\"r\",[\"every\",2,2],\"immediate\",[[\"let\",\"n\",[\"/\",12,[\"-\",[\"now\"],4]]]],\"immediate\",[[\"emit\",[\"value\",\"n\"]]],\"closed\"],[\"x\",[\"every\",1,1],\"exclusive\",[],\"immediate\",[[\"emit\",[\"now\"]]]]],\"items\":[[\"tx\",[[\"install\",\"r\"],[\"install\",\"x\"]]],[\"clock\",6]]}") (codes "unit 1 committed" ∷ codes "unit 2 time 1 committed" ∷ codes "unit 3 time 2 committed" ∷ codes "emit -6" ∷ codes "unit 4 time 3 committed" ∷ codes "unit 5 time 4 aborted A9 r" ∷ codes "exclusive x committed" ∷ codes "emit 4" ∷ codes "unit 6 time 5 committed" ∷ codes "unit 7 time 6 committed" ∷ codes "emit 6" ∷ codes "final" ∷ codes "rule r enabled" ∷ codes "rule x enabled" ∷ codes "end" ∷ [])
unfolding script_on_literals
closed_in_a_moment = refl

pub closed_inside_a_closed_action : ReportsTree
    (codes "{\"version\":4,\"classes\":[[\"acct\",[[\"bal\",\"int\"]]]],\"rules\":[[\"outer\",[\"signal\",\"go\"],\"immediate\",[],\"immediate\",[[\"update\",\"acct\",1,[[\"bal\",5]]],[\"emit\",2]],\"closed\"],[\"inner\",[\"update\",\"acct\"],\"immediate\",[[\"let\",\"z\",[\"/\",1,0]]],\"immediate\",[],\"closed\"]],\"items\":[[\"tx\",[[\"create\",\"acct\",1,[[\"bal\",0]]],[\"install\",\"outer\"],[\"install\",\"inner\"],[\"signal\",\"go\",[]],[\"emit\",1]]]]}") (codes "unit 1 aborted A9 inner" ∷ codes "  op create acct 1 bal=0" ∷ codes "  op install outer" ∷ codes "  op install inner" ∷ codes "  fire outer immediate satisfied aborted A9 inner" ∷ codes "    op update acct 1 bal=5" ∷ codes "    fire inner immediate fault A5 none" ∷ codes "final" ∷ codes "rule outer absent" ∷ codes "rule inner absent" ∷ codes "end" ∷ [])
unfolding script_on_literals
closed_inside_a_closed_action = refl

pub closed_inside_its_own_action : ReportsTree
    (codes "{\"version\":4,\"classes\":[[\"acct\",[[\"bal\",\"int\"]]]],\"rules\":[[\"r\",[\"update\",\"acct\"],\"immediate\",[],\"immediate\",[[\"emit\",[\"new\",0,\"bal\"]],[\"update\",\"acct\",1,[[\"bal\",[\"-\",[\"new\",0,\"bal\"],1]]]],[\"if\",[\"=\",[\"new\",0,\"bal\"],1],[[\"abort\"]],[]]],\"closed\"]],\"items\":[[\"tx\",[[\"create\",\"acct\",1,[[\"bal\",0]]],[\"install\",\"r\"]]],[\"tx\",[[\"update\",\"acct\",1,[[\"bal\",2]]]]],[\"tx\",[[\"update\",\"acct\",1,[[\"bal\",1]]]]]],\"depth\":2}") (codes "unit 1 committed" ∷ codes "  op create acct 1 bal=0" ∷ codes "  op install r" ∷ codes "unit 2 aborted A9 r" ∷ codes "  op update acct 1 bal=2" ∷ codes "  fire r immediate satisfied aborted A9 r" ∷ codes "    emit 2" ∷ codes "    op update acct 1 bal=1" ∷ codes "    fire r immediate satisfied aborted A7" ∷ codes "      emit 1" ∷ codes "      op update acct 1 bal=0" ∷ codes "unit 3 aborted A9 r" ∷ codes "  op update acct 1 bal=1" ∷ codes "  fire r immediate satisfied aborted A9 r" ∷ codes "    emit 1" ∷ codes "    op update acct 1 bal=0" ∷ codes "    fire r immediate satisfied aborted A7" ∷ codes "      emit 0" ∷ codes "      op update acct 1 bal=-1" ∷ codes "final" ∷ codes "object acct 1 bal=0" ∷ codes "rule r enabled" ∷ codes "end" ∷ [])
unfolding script_on_literals
closed_inside_its_own_action = refl

pub closed_left_out : ReportsTree
    (codes "{\"version\":4,\"classes\":[[\"acct\",[[\"bal\",\"int\"]]]],\"rules\":[[\"r\",[\"signal\",\"go\"],\"immediate\",[[\"let\",\"z\",[\"/\",1,0]]],\"immediate\",[[\"emit\",1]]],[\"s\",[\"signal\",\"go\"],\"immediate\",[],\"immediate\",[[\"emit\",2],[\"abort\"]]],[\"t\",[\"signal\",\"go\"],\"immediate\",[],\"immediate\",[[\"emit\",3]]]],\"items\":[[\"tx\",[[\"install\",\"r\"],[\"install\",\"s\"],[\"install\",\"t\"],[\"signal\",\"go\",[]]]]]}") (codes "unit 1 committed" ∷ codes "emit 3" ∷ codes "  op install r" ∷ codes "  op install s" ∷ codes "  op install t" ∷ codes "  fire r immediate fault A5 none" ∷ codes "  fire s immediate satisfied aborted A8" ∷ codes "    emit 2" ∷ codes "  fire t immediate satisfied committed" ∷ codes "    emit 3" ∷ codes "final" ∷ codes "rule r enabled" ∷ codes "rule s enabled" ∷ codes "rule t enabled" ∷ codes "end" ∷ [])
unfolding script_on_literals
closed_left_out = refl

pub closed_releases_exclusive_tasks : ReportsTree
    (codes "{\"version\":4,\"classes\":[],\"rules\":[[\"x\",[\"signal\",\"go\"],\"exclusive\",[],\"immediate\",[[\"emit\",\"x\"]]],[\"p\",[\"signal\",\"go\"],\"dependent\",[],\"immediate\",[[\"emit\",\"p\"]]],[\"r\",[\"signal\",\"go\"],\"immediate\",[[\"let\",\"z\",[\"/\",1,0]]],\"immediate\",[],\"closed\"],[\"y\",[\"signal\",\"on\"],\"exclusive\",[],\"immediate\",[[\"emit\",\"y\"]]]],\"items\":[[\"tx\",[[\"install\",\"x\"],[\"install\",\"p\"],[\"install\",\"r\"],[\"install\",\"y\"]]],[\"tx\",[[\"signal\",\"on\",[]],[\"sub\",[[\"signal\",\"go\",[]]],[]],[\"emit\",1]]]]}") (codes "unit 1 committed" ∷ codes "  op install x" ∷ codes "  op install p" ∷ codes "  op install r" ∷ codes "  op install y" ∷ codes "unit 2 committed" ∷ codes "emit 1" ∷ codes "  sub aborted A9 r" ∷ codes "    fire r immediate fault A5 none" ∷ codes "  emit 1" ∷ codes "exclusive x committed" ∷ codes "emit \"x\"" ∷ codes "  fire x exclusive satisfied committed" ∷ codes "    emit \"x\"" ∷ codes "final" ∷ codes "rule x enabled" ∷ codes "rule p enabled" ∷ codes "rule r enabled" ∷ codes "rule y enabled" ∷ codes "end" ∷ [])
unfolding script_on_literals
closed_releases_exclusive_tasks = refl

pub closed_too_deep_at_the_signal : ReportsTree
    (codes "{\"version\":4,\"classes\":[],\"rules\":[[\"a\",[\"signal\",\"go\"],\"immediate\",[],\"immediate\",[[\"signal\",\"on\",[]]]],[\"r\",[\"signal\",\"on\"],\"immediate\",[[\"let\",\"z\",[\"/\",1,0]]],\"immediate\",[],\"closed\"]],\"items\":[[\"tx\",[[\"install\",\"a\"],[\"install\",\"r\"]]],[\"tx\",[[\"signal\",\"go\",[]],[\"emit\",1]]]],\"depth\":1}") (codes "unit 1 committed" ∷ codes "  op install a" ∷ codes "  op install r" ∷ codes "unit 2 committed" ∷ codes "emit 1" ∷ codes "  fire a immediate satisfied aborted A7" ∷ codes "  emit 1" ∷ codes "final" ∷ codes "rule a enabled" ∷ codes "rule r enabled" ∷ codes "end" ∷ [])
unfolding script_on_literals
closed_too_deep_at_the_signal = refl

pub closed_unsatisfied_refuses_nothing : Reports
    (codes "{\"version\":4,\"classes\":[[\"acct\",[[\"bal\",\"int\"]]]],\"rules\":[[\"a\",[\"signal\",\"go\"],\"immediate\",[[\"no\",\"k\",\"acct\",true]],\"immediate\",[[\"abort\"]],\"closed\"],[\"b\",[\"signal\",\"go\"],\"immediate\",[[\"x\",\"acct\",false]],\"immediate\",[[\"abort\"]],\"closed\"],[\"c\",[\"signal\",\"go\"],\"immediate\",[[\"let\",\"n\",[\"least\",\"s\",\"acct\",false,[\"of\",\"s\",\"bal\"]]]],\"immediate\",[[\"abort\"]],\"closed\"]],\"items\":[[\"tx\",[[\"create\",\"acct\",1,[[\"bal\",1]]],[\"install\",\"a\"],[\"install\",\"b\"],[\"install\",\"c\"],[\"signal\",\"go\",[]],[\"emit\",1]]]]}") (codes "unit 1 committed" ∷ codes "emit 1" ∷ codes "final" ∷ codes "object acct 1 bal=1" ∷ codes "rule a enabled" ∷ codes "rule b enabled" ∷ codes "rule c enabled" ∷ codes "end" ∷ [])
unfolding script_on_literals
closed_unsatisfied_refuses_nothing = refl

pub exclusive_in_version_4 : Reports
    (codes "{\"version\":4,\"classes\":[],\"rules\":[[\"x\",[\"signal\",\"go\"],\"exclusive\",[],\"immediate\",[[\"emit\",1]]]],\"items\":[[\"tx\",[[\"install\",\"x\"]]],[\"tx\",[[\"signal\",\"go\",[]],[\"abort\"]]]]}") (codes "unit 1 committed" ∷ codes "unit 2 aborted A8" ∷ codes "exclusive x committed" ∷ codes "emit 1" ∷ codes "final" ∷ codes "rule x enabled" ∷ codes "end" ∷ [])
unfolding script_on_literals
exclusive_in_version_4 = refl

pub let_count_of_the_occurrence : Reports
    (codes "{\"version\":4,\"classes\":[[\"acct\",[[\"bal\",\"int\"]]]],\"rules\":[[\"r\",[\"closure\",[\"signal\",\"a\"],[\"signal\",\"t\"]],\"immediate\",[[\"let\",\"n\",[\"count\"]],[\"let\",\"m\",[\"count\",\"s\",\"acct\",true]]],\"immediate\",[[\"emit\",[\"value\",\"n\"]],[\"emit\",[\"value\",\"m\"]]]]],\"items\":[[\"tx\",[[\"install\",\"r\"],[\"signal\",\"a\",[]],[\"signal\",\"a\",[]],[\"signal\",\"t\",[]]]]]}") (codes "unit 1 committed" ∷ codes "emit 2" ∷ codes "emit 0" ∷ codes "final" ∷ codes "rule r enabled" ∷ codes "end" ∷ [])
unfolding script_on_literals
let_count_of_the_occurrence = refl

pub let_known_to_later_entries : Reports
    (codes "{\"version\":4,\"classes\":[[\"acct\",[[\"bal\",\"int\"]]]],\"rules\":[[\"r\",[\"signal\",\"go\"],\"immediate\",[[\"let\",\"m\",[\"greatest\",\"s\",\"acct\",true,[\"of\",\"s\",\"bal\"]]],[\"x\",\"acct\",[\"=\",[\"of\",\"x\",\"bal\"],[\"value\",\"m\"]]],[\"let\",\"n\",[\"count\",\"s\",\"acct\",[\"<\",[\"of\",\"s\",\"bal\"],[\"value\",\"m\"]]]],[\"let\",\"p\",[\"+\",[\"value\",\"n\"],[\"key\",\"x\"]]]],\"immediate\",[[\"for\",\"x\",[[\"emit\",[\"key\",\"x\"]]]],[\"emit\",[\"value\",\"p\"]]]]],\"items\":[[\"tx\",[[\"create\",\"acct\",1,[[\"bal\",4]]],[\"create\",\"acct\",2,[[\"bal\",9]]],[\"create\",\"acct\",3,[[\"bal\",9]]],[\"create\",\"acct\",4,[[\"bal\",0]]],[\"install\",\"r\"],[\"signal\",\"go\",[]]]]]}") (codes "unit 1 committed" ∷ codes "emit 2" ∷ codes "emit 3" ∷ codes "emit 4" ∷ codes "final" ∷ codes "object acct 1 bal=4" ∷ codes "object acct 2 bal=9" ∷ codes "object acct 3 bal=9" ∷ codes "object acct 4 bal=0" ∷ codes "rule r enabled" ∷ codes "end" ∷ [])
unfolding script_on_literals
let_known_to_later_entries = refl

pub let_least_and_greatest_of_ints : Reports
    (codes "{\"version\":4,\"classes\":[[\"acct\",[[\"bal\",\"int\"]]]],\"rules\":[[\"r\",[\"signal\",\"go\"],\"immediate\",[[\"let\",\"a\",[\"least\",\"s\",\"acct\",true,[\"of\",\"s\",\"bal\"]]],[\"let\",\"b\",[\"greatest\",\"s\",\"acct\",[\"<\",[\"of\",\"s\",\"bal\"],10],[\"of\",\"s\",\"bal\"]]],[\"let\",\"c\",[\"greatest\",\"s\",\"acct\",true,[\"key\",\"s\"]]]],\"immediate\",[[\"emit\",[\"value\",\"a\"]],[\"emit\",[\"value\",\"b\"]],[\"emit\",[\"value\",\"c\"]]]]],\"items\":[[\"tx\",[[\"create\",\"acct\",1,[[\"bal\",3]]],[\"create\",\"acct\",2,[[\"bal\",-20]]],[\"create\",\"acct\",5,[[\"bal\",10]]],[\"create\",\"acct\",4,[[\"bal\",9]]],[\"install\",\"r\"],[\"signal\",\"go\",[]]]]]}") (codes "unit 1 committed" ∷ codes "emit -20" ∷ codes "emit 9" ∷ codes "emit 5" ∷ codes "final" ∷ codes "object acct 1 bal=3" ∷ codes "object acct 2 bal=-20" ∷ codes "object acct 4 bal=9" ∷ codes "object acct 5 bal=10" ∷ codes "rule r enabled" ∷ codes "end" ∷ [])
unfolding script_on_literals
let_least_and_greatest_of_ints = refl

pub let_least_of_no_row_is_unsatisfied : ReportsTree
    (codes "{\"version\":4,\"classes\":[[\"acct\",[[\"bal\",\"int\"]]]],\"rules\":[[\"r\",[\"signal\",\"go\"],\"immediate\",[[\"let\",\"a\",[\"least\",\"s\",\"acct\",[\">\",[\"of\",\"s\",\"bal\"],0],[\"of\",\"s\",\"bal\"]]],[\"let\",\"z\",[\"/\",1,0]]],\"immediate\",[[\"emit\",[\"value\",\"a\"]]],\"closed\"]],\"items\":[[\"tx\",[[\"create\",\"acct\",1,[[\"bal\",0]]],[\"install\",\"r\"],[\"signal\",\"go\",[]],[\"sub\",[[\"update\",\"acct\",1,[[\"bal\",1]]],[\"signal\",\"go\",[]]],[]]]]]}") (codes "unit 1 committed" ∷ codes "  op create acct 1 bal=0" ∷ codes "  op install r" ∷ codes "  fire r immediate unsatisfied none" ∷ codes "  sub aborted A9 r" ∷ codes "    op update acct 1 bal=1" ∷ codes "    fire r immediate fault A5 none" ∷ codes "final" ∷ codes "object acct 1 bal=0" ∷ codes "rule r enabled" ∷ codes "end" ∷ [])
unfolding script_on_literals
let_least_of_no_row_is_unsatisfied = refl

pub let_next : Reports (codes "{\"version\":4,\"classes\":[[\"acct\",[[\"bal\",\"int\"]]]],\"rules\":[[\"r\",[\"signal\",\"go\"],\"immediate\",[[\"let\",\"n\",[\"next\",\"acct\"]]],\"immediate\",[[\"emit\",[\"value\",\"n\"]]]]],\"items\":[[\"tx\",[[\"install\",\"r\"],[\"signal\",\"go\",[]],[\"create\",\"acct\",-5,[[\"bal\",0]]],[\"signal\",\"go\",[]],[\"create\",\"acct\",7,[[\"bal\",0]]],[\"create\",\"acct\",2,[[\"bal\",0]]],[\"signal\",\"go\",[]],[\"delete\",\"acct\",7],[\"signal\",\"go\",[]]]]]}") (codes "unit 1 committed" ∷ codes "emit 1" ∷ codes "emit -4" ∷ codes "emit 8" ∷ codes "emit 3" ∷ codes "final" ∷ codes "object acct -5 bal=0" ∷ codes "object acct 2 bal=0" ∷ codes "rule r enabled" ∷ codes "end" ∷ [])
unfolding script_on_literals
let_next = refl

pub let_plain : Reports (codes "{\"version\":4,\"classes\":[],\"rules\":[[\"r\",[\"signal\",\"go\"],\"immediate\",[[\"let\",\"p\",[\"+\",[\"arg\",0,0],1]]],\"immediate\",[[\"emit\",[\"value\",\"p\"]],[\"emit\",[\"*\",[\"value\",\"p\"],[\"value\",\"p\"]]]]]],\"items\":[[\"tx\",[[\"install\",\"r\"],[\"signal\",\"go\",[2]]]]]}") (codes "unit 1 committed" ∷ codes "emit 3" ∷ codes "emit 9" ∷ codes "final" ∷ codes "rule r enabled" ∷ codes "end" ∷ [])
unfolding script_on_literals
let_plain = refl

pub let_sixteen_levels : Reports
    (codes "{\"version\":4,\"classes\":[],\"rules\":[],\"items\":[[\"tx\",[[\"let\",\"n14\",14,[[\"let\",\"n13\",13,[[\"let\",\"n12\",12,[[\"let\",\"n11\",11,[[\"let\",\"n10\",10,[[\"let\",\"n9\",9,[[\"let\",\"n8\",8,[[\"let\",\"n7\",7,[[\"let\",\"n6\",6,[[\"let\",\"n5\",5,[[\"let\",\"n4\",4,[[\"let\",\"n3\",3,[[\"let\",\"n2\",2,[[\"let\",\"n1\",1,[[\"let\",\"n0\",0,[[\"emit\",[\"value\",\"n0\"]]]]]]]]]]]]]]]]]]]]]]]]]]]]]]]]]]]}") (codes "unit 1 committed" ∷ codes "emit 0" ∷ codes "final" ∷ codes "end" ∷ [])
unfolding script_on_literals
let_sixteen_levels = refl

pub let_statement_fault : Reports
    (codes "{\"version\":4,\"classes\":[[\"acct\",[[\"bal\",\"int\"]]]],\"rules\":[],\"items\":[[\"tx\",[[\"create\",\"acct\",1,[[\"bal\",9223372036854775807]]],[\"create\",\"acct\",2,[[\"bal\",1]]]]],[\"tx\",[[\"emit\",1],[\"let\",\"n\",[\"sum\",\"s\",\"acct\",true,[\"of\",\"s\",\"bal\"]],[[\"emit\",2]]]]],[\"tx\",[[\"let\",\"n\",[\"sum\",\"s\",\"acct\",true,true],[]]]],[\"tx\",[[\"let\",\"n\",[\"count\"],[]]]],[\"tx\",[[\"create\",\"acct\",9223372036854775807,[[\"bal\",0]]],[\"let\",\"n\",[\"next\",\"acct\"],[]]]]]}") (codes "unit 1 committed" ∷ codes "unit 2 aborted A4" ∷ codes "unit 3 aborted A3" ∷ codes "unit 4 aborted A6" ∷ codes "unit 5 aborted A4" ∷ codes "final" ∷ codes "object acct 1 bal=9223372036854775807" ∷ codes "object acct 2 bal=1" ∷ codes "end" ∷ [])
unfolding script_on_literals
let_statement_fault = refl

pub let_statement_least_of_no_row : ReportsTree
    (codes "{\"version\":4,\"classes\":[[\"acct\",[[\"bal\",\"int\"]]]],\"rules\":[],\"items\":[[\"tx\",[[\"sub\",[[\"create\",\"acct\",1,[[\"bal\",0]]],[\"let\",\"n\",[\"least\",\"s\",\"acct\",[\">\",[\"of\",\"s\",\"bal\"],0],[\"of\",\"s\",\"bal\"]],[[\"emit\",1]]]],[[\"emit\",\"none\"]]]]],[\"tx\",[[\"let\",\"n\",[\"greatest\",\"s\",\"acct\",true,[\"of\",\"s\",\"bal\"]],[]]]]]}") (codes "unit 1 committed" ∷ codes "emit \"none\"" ∷ codes "  sub aborted A2" ∷ codes "    op create acct 1 bal=0" ∷ codes "  emit \"none\"" ∷ codes "unit 2 aborted A2" ∷ codes "final" ∷ codes "end" ∷ [])
unfolding script_on_literals
let_statement_least_of_no_row = refl

pub let_sum : Reports (codes "{\"version\":4,\"classes\":[[\"acct\",[[\"bal\",\"int\"]]]],\"rules\":[[\"r\",[\"signal\",\"go\"],\"immediate\",[[\"let\",\"n\",[\"sum\",\"s\",\"acct\",[\"!=\",[\"key\",\"s\"],2],[\"*\",[\"of\",\"s\",\"bal\"],[\"key\",\"s\"]]]]],\"immediate\",[[\"emit\",[\"value\",\"n\"]]]]],\"items\":[[\"tx\",[[\"create\",\"acct\",1,[[\"bal\",10]]],[\"create\",\"acct\",2,[[\"bal\",100]]],[\"create\",\"acct\",3,[[\"bal\",-7]]],[\"install\",\"r\"],[\"signal\",\"go\",[]]]]]}") (codes "unit 1 committed" ∷ codes "emit -11" ∷ codes "final" ∷ codes "object acct 1 bal=10" ∷ codes "object acct 2 bal=100" ∷ codes "object acct 3 bal=-7" ∷ codes "rule r enabled" ∷ codes "end" ∷ [])
unfolding script_on_literals
let_sum = refl

pub let_sum_fault_before_a_later_overflow : ReportsTree
    (codes "{\"version\":4,\"classes\":[[\"acct\",[[\"bal\",\"int\"]]]],\"rules\":[[\"r\",[\"signal\",\"go\"],\"immediate\",[[\"let\",\"n\",[\"sum\",\"s\",\"acct\",[\"<\",[\"/\",9,[\"-\",3,[\"key\",\"s\"]]],99],[\"of\",\"s\",\"bal\"]]]],\"immediate\",[]]],\"items\":[[\"tx\",[[\"create\",\"acct\",1,[[\"bal\",9223372036854775807]]],[\"create\",\"acct\",3,[[\"bal\",0]]],[\"create\",\"acct\",4,[[\"bal\",1]]],[\"install\",\"r\"],[\"signal\",\"go\",[]]]]]}") (codes "unit 1 committed" ∷ codes "  op create acct 1 bal=9223372036854775807" ∷ codes "  op create acct 3 bal=0" ∷ codes "  op create acct 4 bal=1" ∷ codes "  op install r" ∷ codes "  fire r immediate fault A5 none" ∷ codes "final" ∷ codes "object acct 1 bal=9223372036854775807" ∷ codes "object acct 3 bal=0" ∷ codes "object acct 4 bal=1" ∷ codes "rule r enabled" ∷ codes "end" ∷ [])
unfolding script_on_literals
let_sum_fault_before_a_later_overflow = refl

pub let_sum_over_what_elder_siblings_write : Reports
    (codes "{\"version\":4,\"classes\":[[\"acct\",[[\"bal\",\"int\"]]]],\"rules\":[[\"a\",[\"signal\",\"go\"],\"immediate\",[[\"let\",\"n\",[\"next\",\"acct\"]]],\"immediate\",[[\"create\",\"acct\",[\"value\",\"n\"],[[\"bal\",10]]]]],[\"b\",[\"signal\",\"go\"],\"immediate\",[[\"let\",\"n\",[\"next\",\"acct\"]]],\"immediate\",[[\"create\",\"acct\",[\"value\",\"n\"],[[\"bal\",5]]]]],[\"c\",[\"signal\",\"go\"],\"immediate\",[[\"let\",\"t\",[\"sum\",\"s\",\"acct\",true,[\"of\",\"s\",\"bal\"]]]],\"immediate\",[[\"emit\",[\"value\",\"t\"]]]],[\"d\",[\"signal\",\"go\"],\"immediate\",[],\"immediate\",[[\"each\",\"v\",\"acct\",true,[[\"update\",\"acct\",[\"key\",\"v\"],[[\"bal\",1]]]]]]],[\"e\",[\"signal\",\"go\"],\"immediate\",[[\"let\",\"t\",[\"sum\",\"s\",\"acct\",true,[\"of\",\"s\",\"bal\"]]]],\"immediate\",[[\"emit\",[\"value\",\"t\"]]]]],\"items\":[[\"tx\",[[\"install\",\"a\"],[\"install\",\"b\"],[\"install\",\"c\"],[\"install\",\"d\"],[\"install\",\"e\"],[\"signal\",\"go\",[]],[\"signal\",\"go\",[]]]]]}") (codes "unit 1 committed" ∷ codes "emit 15" ∷ codes "emit 2" ∷ codes "emit 17" ∷ codes "emit 4" ∷ codes "final" ∷ codes "object acct 1 bal=1" ∷ codes "object acct 2 bal=1" ∷ codes "object acct 3 bal=1" ∷ codes "object acct 4 bal=1" ∷ codes "rule a enabled" ∷ codes "rule b enabled" ∷ codes "rule c enabled" ∷ codes "rule d enabled" ∷ codes "rule e enabled" ∷ codes "end" ∷ [])
unfolding script_on_literals
let_sum_over_what_elder_siblings_write = refl

pub let_sum_overflow : ReportsTree
    (codes "{\"version\":4,\"classes\":[[\"acct\",[[\"bal\",\"int\"]]]],\"rules\":[[\"r\",[\"signal\",\"go\"],\"immediate\",[[\"let\",\"n\",[\"sum\",\"s\",\"acct\",true,[\"of\",\"s\",\"bal\"]]]],\"immediate\",[[\"emit\",[\"value\",\"n\"]]]]],\"items\":[[\"tx\",[[\"create\",\"acct\",1,[[\"bal\",9223372036854775807]]],[\"create\",\"acct\",2,[[\"bal\",1]]],[\"create\",\"acct\",3,[[\"bal\",-1]]],[\"install\",\"r\"],[\"signal\",\"go\",[]],[\"update\",\"acct\",2,[[\"bal\",-1]]],[\"update\",\"acct\",3,[[\"bal\",1]]],[\"signal\",\"go\",[]]]]]}") (codes "unit 1 committed" ∷ codes "emit 9223372036854775807" ∷ codes "  op create acct 1 bal=9223372036854775807" ∷ codes "  op create acct 2 bal=1" ∷ codes "  op create acct 3 bal=-1" ∷ codes "  op install r" ∷ codes "  fire r immediate fault A4 none" ∷ codes "  op update acct 2 bal=-1" ∷ codes "  op update acct 3 bal=1" ∷ codes "  fire r immediate satisfied committed" ∷ codes "    emit 9223372036854775807" ∷ codes "final" ∷ codes "object acct 1 bal=9223372036854775807" ∷ codes "object acct 2 bal=-1" ∷ codes "object acct 3 bal=1" ∷ codes "rule r enabled" ∷ codes "end" ∷ [])
unfolding script_on_literals
let_sum_overflow = refl

pub let_x_may_have_the_let_s_own_name : Reports
    (codes "{\"version\":4,\"classes\":[[\"acct\",[[\"bal\",\"int\"]]]],\"rules\":[[\"r\",[\"signal\",\"go\"],\"immediate\",[[\"let\",\"n\",[\"count\",\"n\",\"acct\",[\"=\",[\"key\",\"n\"],1]]]],\"immediate\",[[\"emit\",[\"value\",\"n\"]]]]],\"items\":[[\"tx\",[[\"create\",\"acct\",1,[[\"bal\",0]]],[\"create\",\"acct\",2,[[\"bal\",0]]],[\"install\",\"r\"],[\"signal\",\"go\",[]]]]]}") (codes "unit 1 committed" ∷ codes "emit 1" ∷ codes "final" ∷ codes "object acct 1 bal=0" ∷ codes "object acct 2 bal=0" ∷ codes "rule r enabled" ∷ codes "end" ∷ [])
unfolding script_on_literals
let_x_may_have_the_let_s_own_name = refl

pub levels_begin_anew_in_an_aggregate : Reports
    (codes "{\"version\":4,\"classes\":[[\"acct\",[[\"bal\",\"int\"]]]],\"rules\":[],\"items\":[[\"tx\",[[\"create\",\"acct\",1,[[\"bal\",0]]],[\"let\",\"n\",[\"sum\",\"s\",\"acct\",[\"=\",[\"neg\",[\"neg\",[\"neg\",[\"neg\",[\"neg\",[\"neg\",[\"neg\",[\"neg\",[\"neg\",[\"neg\",[\"neg\",[\"neg\",[\"neg\",[\"neg\",1]]]]]]]]]]]]]],1],[\"neg\",[\"neg\",[\"neg\",[\"neg\",[\"neg\",[\"neg\",[\"neg\",[\"neg\",[\"neg\",[\"neg\",[\"neg\",[\"neg\",[\"neg\",[\"neg\",[\"neg\",1]]]]]]]]]]]]]]]],[[\"emit\",[\"value\",\"n\"]]]]]]]}") (codes "unit 1 committed" ∷ codes "emit -1" ∷ codes "final" ∷ codes "object acct 1 bal=0" ∷ codes "end" ∷ [])
unfolding script_on_literals
levels_begin_anew_in_an_aggregate = refl

pub no_by_key : Reports (codes "{\"version\":4,\"classes\":[[\"acct\",[[\"bal\",\"int\"]]]],\"rules\":[[\"r\",[\"signal\",\"go\"],\"immediate\",[[\"no\",\"k\",\"acct\",[\"=\",[\"key\",\"k\"],[\"arg\",0,0]]]],\"immediate\",[[\"create\",\"acct\",[\"arg\",0,0],[[\"bal\",0]]],[\"emit\",[\"arg\",0,0]]]]],\"items\":[[\"tx\",[[\"install\",\"r\"],[\"signal\",\"go\",[7]],[\"signal\",\"go\",[7]],[\"signal\",\"go\",[2]]]],[\"tx\",[[\"delete\",\"acct\",7],[\"signal\",\"go\",[7]]]]]}") (codes "unit 1 committed" ∷ codes "emit 7" ∷ codes "emit 2" ∷ codes "unit 2 committed" ∷ codes "emit 7" ∷ codes "final" ∷ codes "object acct 2 bal=0" ∷ codes "object acct 7 bal=0" ∷ codes "rule r enabled" ∷ codes "end" ∷ [])
unfolding script_on_literals
no_by_key = refl

pub no_empty_class : Reports (codes
    "{\"version\":4,\"classes\":[[\"acct\",[[\"bal\",\"int\"]]]],\"rules\":[[\"r\",[\"signal\",\"go\"],\"immediate\",[[\"no\",\"k\",\"acct\",true]],\"immediate\",[[\"emit\",1]]]],\"items\":[[\"tx\",[[\"install\",\"r\"],[\"signal\",\"go\",[]]]]]}") (codes "unit 1 committed" ∷ codes "emit 1" ∷ codes "final" ∷ codes "rule r enabled" ∷ codes "end" ∷ [])
unfolding script_on_literals
no_empty_class = refl

pub no_first_fault_in_key_order : ReportsTree
    (codes "{\"version\":4,\"classes\":[[\"acct\",[[\"bal\",\"int\"]]]],\"rules\":[[\"r\",[\"signal\",\"go\"],\"immediate\",[[\"no\",\"k\",\"acct\",[\"=\",[\"/\",[\"neg\",[\"of\",\"k\",\"bal\"]],[\"-\",[\"key\",\"k\"],2]],99]]],\"immediate\",[]]],\"items\":[[\"tx\",[[\"create\",\"acct\",2,[[\"bal\",5]]],[\"create\",\"acct\",1,[[\"bal\",-9223372036854775808]]],[\"install\",\"r\"],[\"signal\",\"go\",[]]]]]}") (codes "unit 1 committed" ∷ codes "  op create acct 2 bal=5" ∷ codes "  op create acct 1 bal=-9223372036854775808" ∷ codes "  op install r" ∷ codes "  fire r immediate fault A4 none" ∷ codes "final" ∷ codes "object acct 1 bal=-9223372036854775808" ∷ codes "object acct 2 bal=5" ∷ codes "rule r enabled" ∷ codes "end" ∷ [])
unfolding script_on_literals
no_first_fault_in_key_order = refl

pub no_knows_earlier_entries : Reports
    (codes "{\"version\":4,\"classes\":[[\"acct\",[[\"bal\",\"int\"]]]],\"rules\":[[\"r\",[\"signal\",\"go\"],\"immediate\",[[\"x\",\"acct\",true],[\"let\",\"m\",[\"*\",2,[\"of\",\"x\",\"bal\"]]],[\"no\",\"k\",\"acct\",[\">\",[\"of\",\"k\",\"bal\"],[\"value\",\"m\"]]]],\"immediate\",[[\"emit\",[\"value\",\"m\"]]]]],\"items\":[[\"tx\",[[\"create\",\"acct\",1,[[\"bal\",5]]],[\"create\",\"acct\",2,[[\"bal\",10]]],[\"install\",\"r\"],[\"signal\",\"go\",[]]]],[\"tx\",[[\"update\",\"acct\",2,[[\"bal\",11]]],[\"signal\",\"go\",[]]]]]}") (codes "unit 1 committed" ∷ codes "emit 10" ∷ codes "unit 2 committed" ∷ codes "final" ∷ codes "object acct 1 bal=5" ∷ codes "object acct 2 bal=11" ∷ codes "rule r enabled" ∷ codes "end" ∷ [])
unfolding script_on_literals
no_knows_earlier_entries = refl

pub no_name_is_free_afterwards : Reports
    (codes "{\"version\":4,\"classes\":[[\"acct\",[[\"bal\",\"int\"]]]],\"rules\":[[\"r\",[\"signal\",\"go\"],\"immediate\",[[\"no\",\"k\",\"acct\",[\"=\",[\"key\",\"k\"],8]],[\"no\",\"k\",\"acct\",[\"=\",[\"key\",\"k\"],9]],[\"k\",\"acct\",true]],\"immediate\",[[\"with\",\"v\",\"acct\",[\"key\",\"k\"],[[\"emit\",[\"of\",\"v\",\"bal\"]]]]]],[\"s\",[\"signal\",\"go\"],\"immediate\",[[\"no\",\"k\",\"acct\",false]],\"immediate\",[[\"each\",\"k\",\"acct\",true,[[\"emit\",[\"key\",\"k\"]]]]]]],\"items\":[[\"tx\",[[\"create\",\"acct\",3,[[\"bal\",33]]],[\"create\",\"acct\",4,[[\"bal\",44]]],[\"install\",\"r\"],[\"install\",\"s\"],[\"signal\",\"go\",[]]]]]}") (codes "unit 1 committed" ∷ codes "emit 33" ∷ codes "emit 3" ∷ codes "emit 4" ∷ codes "final" ∷ codes "object acct 3 bal=33" ∷ codes "object acct 4 bal=44" ∷ codes "rule r enabled" ∷ codes "rule s enabled" ∷ codes "end" ∷ [])
unfolding script_on_literals
no_name_is_free_afterwards = refl

pub now_in_moments_and_their_cascades : Reports
    (codes "{\"version\":4,\"classes\":[],\"rules\":[[\"m\",[\"every\",3,4],\"immediate\",[],\"immediate\",[[\"emit\",[\"now\"]]]],[\"s\",[\"every\",3,4],\"immediate\",[[\"let\",\"t\",[\"now\"]]],\"separate\",[[\"emit\",[\"*\",100,[\"now\"]]],[\"emit\",[\"value\",\"t\"]]]],[\"d\",[\"at\",7],\"deferred\",[],\"immediate\",[[\"emit\",[\"neg\",[\"now\"]]]]]],\"items\":[[\"tx\",[[\"install\",\"m\"],[\"install\",\"s\"],[\"install\",\"d\"]]],[\"clock\",9],[\"tx\",[[\"emit\",[\"now\"]],[\"fire\",\"s\"]]]]}") (codes "unit 1 committed" ∷ codes "unit 2 time 3 committed" ∷ codes "emit 3" ∷ codes "separate s committed" ∷ codes "emit 300" ∷ codes "emit 3" ∷ codes "unit 3 time 7 committed" ∷ codes "emit 7" ∷ codes "emit -7" ∷ codes "separate s committed" ∷ codes "emit 700" ∷ codes "emit 7" ∷ codes "unit 4 committed" ∷ codes "emit 9" ∷ codes "separate s committed" ∷ codes "emit 900" ∷ codes "emit 9" ∷ codes "final" ∷ codes "rule m enabled" ∷ codes "rule s enabled" ∷ codes "rule d enabled" ∷ codes "end" ∷ [])
unfolding script_on_literals
now_in_moments_and_their_cascades = refl

pub now_of_a_deferred_and_a_detached_task : Reports
    (codes "{\"version\":4,\"classes\":[],\"rules\":[[\"d\",[\"signal\",\"go\"],\"deferred\",[],\"immediate\",[[\"emit\",[\"now\"]],[\"signal\",\"on\",[]]]],[\"s\",[\"signal\",\"on\"],\"separate\",[],\"immediate\",[[\"emit\",[\"now\"]]]]],\"items\":[[\"tx\",[[\"install\",\"d\"],[\"install\",\"s\"]]],[\"clock\",4],[\"tx\",[[\"signal\",\"go\",[]]]],[\"clock\",6],[\"tx\",[[\"signal\",\"go\",[]]]]]}") (codes "unit 1 committed" ∷ codes "unit 2 committed" ∷ codes "emit 4" ∷ codes "separate s committed" ∷ codes "emit 4" ∷ codes "unit 3 committed" ∷ codes "emit 6" ∷ codes "separate s committed" ∷ codes "emit 6" ∷ codes "final" ∷ codes "rule d enabled" ∷ codes "rule s enabled" ∷ codes "end" ∷ [])
unfolding script_on_literals
now_of_a_deferred_and_a_detached_task = refl

pub query_named_let_in_version_2 : Reports
    (codes "{\"version\":2,\"classes\":[[\"acct\",[[\"bal\",\"int\"]]]],\"rules\":[[\"r\",[\"signal\",\"go\"],\"immediate\",[[\"let\",\"acct\",true],[\"no\",\"acct\",true]],\"immediate\",[[\"emit\",[\"of\",\"let\",\"bal\"]]]]],\"items\":[[\"tx\",[[\"create\",\"acct\",1,[[\"bal\",8]]],[\"install\",\"r\"],[\"signal\",\"go\",[]]]]]}") (codes "unit 1 committed" ∷ codes "emit 8" ∷ codes "final" ∷ codes "object acct 1 bal=8" ∷ codes "rule r enabled" ∷ codes "end" ∷ [])
unfolding script_on_literals
query_named_let_in_version_2 = refl

pub refused_aggregate_of_wrong_length : Refuses
    (codes "{\"version\":4,\"classes\":[[\"acct\",[[\"bal\",\"int\"]]]],\"rules\":[[\"r\",[\"signal\",\"go\"],\"immediate\",[[\"let\",\"n\",[\"sum\",\"s\",\"acct\",true]]],\"immediate\",[]]],\"items\":[]}") (codes "refused S2 /rules/0/3/0/2")
unfolding script_on_literals
refused_aggregate_of_wrong_length = refl

pub refused_aggregate_x_known : Refuses
    (codes "{\"version\":4,\"classes\":[[\"acct\",[[\"bal\",\"int\"]]]],\"rules\":[[\"r\",[\"signal\",\"go\"],\"immediate\",[[\"q\",\"acct\",true],[\"let\",\"n\",1],[\"no\",\"k\",\"acct\",false]],\"immediate\",[[\"let\",\"m\",[\"sum\",\"q\",\"acct\",true,1],[]]]]],\"items\":[]}") (codes "refused S4 /rules/0/5/0/2/1")
unfolding script_on_literals
refused_aggregate_x_known = refl

pub refused_closed_in_version_2 : Refuses
    (codes "{\"version\":2,\"classes\":[[\"acct\",[[\"bal\",\"int\"]]]],\"rules\":[[\"q\",[\"signal\",\"go\"],\"immediate\",[],\"immediate\",[]],[\"r\",[\"signal\",\"go\"],\"immediate\",[],\"immediate\",[],\"closed\"]],\"items\":[]}") (codes "refused S2 /rules/1")
unfolding script_on_literals
refused_closed_in_version_2 = refl

pub refused_each_named_as_a_let : Refuses
    (codes "{\"version\":4,\"classes\":[[\"acct\",[[\"bal\",\"int\"]]]],\"rules\":[[\"r\",[\"signal\",\"go\"],\"immediate\",[[\"q\",\"acct\",true],[\"let\",\"n\",1],[\"no\",\"k\",\"acct\",false]],\"immediate\",[[\"each\",\"n\",\"acct\",true,[]]]]],\"items\":[]}") (codes "refused S4 /rules/0/5/0/1")
unfolding script_on_literals
refused_each_named_as_a_let = refl

pub refused_eight_parts : Refuses
    (codes "{\"version\":4,\"classes\":[[\"acct\",[[\"bal\",\"int\"]]]],\"rules\":[[\"r\",[\"signal\",\"go\"],\"immediate\",[],\"immediate\",[],\"closed\",\"closed\"]],\"items\":[]}")
    (codes "refused S2 /rules/0")
unfolding script_on_literals
refused_eight_parts = refl

pub refused_key_of_a_no : Refuses
    (codes "{\"version\":4,\"classes\":[[\"acct\",[[\"bal\",\"int\"]]]],\"rules\":[[\"r\",[\"signal\",\"go\"],\"immediate\",[[\"q\",\"acct\",true],[\"let\",\"n\",1],[\"no\",\"k\",\"acct\",false]],\"immediate\",[[\"emit\",[\"key\",\"k\"]]]]],\"items\":[]}") (codes "refused S4 /rules/0/5/0/1/1")
unfolding script_on_literals
refused_key_of_a_no = refl

pub refused_let_at_level_seventeen : Refuses
    (codes "{\"version\":4,\"classes\":[[\"acct\",[[\"bal\",\"int\"]]]],\"rules\":[],\"items\":[[\"tx\",[[\"let\",\"n15\",15,[[\"let\",\"n14\",14,[[\"let\",\"n13\",13,[[\"let\",\"n12\",12,[[\"let\",\"n11\",11,[[\"let\",\"n10\",10,[[\"let\",\"n9\",9,[[\"let\",\"n8\",8,[[\"let\",\"n7\",7,[[\"let\",\"n6\",6,[[\"let\",\"n5\",5,[[\"let\",\"n4\",4,[[\"let\",\"n3\",3,[[\"let\",\"n2\",2,[[\"let\",\"n1\",1,[[\"let\",\"n0\",0,[[\"emit\",1]]]]]]]]]]]]]]]]]]]]]]]]]]]]]]]]]]]]}") (codes "refused S5 nesting")
unfolding script_on_literals
refused_let_at_level_seventeen = refl

pub refused_let_named_as_a_query : Refuses
    (codes "{\"version\":4,\"classes\":[[\"acct\",[[\"bal\",\"int\"]]]],\"rules\":[[\"r\",[\"signal\",\"go\"],\"immediate\",[[\"q\",\"acct\",true],[\"let\",\"q\",1]],\"immediate\",[]]],\"items\":[]}") (codes "refused S4 /rules/0/3/1/1")
unfolding script_on_literals
refused_let_named_as_a_query = refl

pub refused_let_statement_in_version_2 : Refuses (codes "{\"version\":2,\"classes\":[[\"acct\",[[\"bal\",\"int\"]]]],\"rules\":[],\"items\":[[\"tx\",[[\"let\",\"n\",1,[]]]]]}")
    (codes "refused S2 /items/0/1/0")
unfolding script_on_literals
refused_let_statement_in_version_2 = refl

pub refused_name_before_class : Refuses
    (codes "{\"version\":4,\"classes\":[[\"acct\",[[\"bal\",\"int\"]]]],\"rules\":[[\"r\",[\"signal\",\"go\"],\"immediate\",[[\"no\",\"1\",\"nobody\",null]],\"immediate\",[]]],\"items\":[]}") (codes "refused S2 /rules/0/3/0/1")
unfolding script_on_literals
refused_name_before_class = refl

pub refused_no_in_version_2 : Refuses
    (codes "{\"version\":2,\"classes\":[[\"acct\",[[\"bal\",\"int\"]]]],\"rules\":[[\"r\",[\"signal\",\"go\"],\"immediate\",[[\"no\",\"k\",\"acct\",true]],\"immediate\",[]]],\"items\":[]}")
    (codes "refused S2 /rules/0/3/0")
unfolding script_on_literals
refused_no_in_version_2 = refl

pub refused_no_named_as_a_let : Refuses
    (codes "{\"version\":4,\"classes\":[[\"acct\",[[\"bal\",\"int\"]]]],\"rules\":[[\"r\",[\"signal\",\"go\"],\"immediate\",[[\"let\",\"k\",1],[\"no\",\"k\",\"acct\",true]],\"immediate\",[]]],\"items\":[]}") (codes "refused S4 /rules/0/3/1/1")
unfolding script_on_literals
refused_no_named_as_a_let = refl

pub refused_now_in_version_1 : Refuses (codes "{\"version\":1,\"classes\":[[\"acct\",[[\"bal\",\"int\"]]]],\"rules\":[],\"items\":[[\"tx\",[[\"emit\",[\"+\",1,[\"now\"]]]]]]}")
    (codes "refused S2 /items/0/1/0/1/2")
unfolding script_on_literals
refused_now_in_version_1 = refl

pub refused_sum_as_an_expression : Refuses
    (codes "{\"version\":4,\"classes\":[[\"acct\",[[\"bal\",\"int\"]]]],\"rules\":[],\"items\":[[\"tx\",[[\"emit\",[\"sum\",\"s\",\"acct\",true,1]]]]]}") (codes "refused S2 /items/0/1/0/1")
unfolding script_on_literals
refused_sum_as_an_expression = refl

pub refused_value_of_a_row : Refuses
    (codes "{\"version\":4,\"classes\":[[\"acct\",[[\"bal\",\"int\"]]]],\"rules\":[[\"r\",[\"signal\",\"go\"],\"immediate\",[[\"q\",\"acct\",true],[\"let\",\"n\",1],[\"no\",\"k\",\"acct\",false]],\"immediate\",[[\"emit\",[\"value\",\"q\"]]]]],\"items\":[]}") (codes "refused S4 /rules/0/5/0/1/1")
unfolding script_on_literals
refused_value_of_a_row = refl

pub refused_value_unknown : Refuses (codes "{\"version\":4,\"classes\":[[\"acct\",[[\"bal\",\"int\"]]]],\"rules\":[],\"items\":[[\"tx\",[[\"emit\",[\"value\",\"n\"]]]]]}")
    (codes "refused S4 /items/0/1/0/1/1")
unfolding script_on_literals
refused_value_unknown = refl

pub refused_veto_message_in_a_script : Refuses (codes "{\"version\":4,\"classes\":[[\"acct\",[[\"bal\",\"int\"]]]],\"rules\":[],\"items\":[[\"tx\",[[\"sub\",[[\"veto\",1]],[]]]]]}")
    (codes "refused S2 /items/0/1/0/1/0")
unfolding script_on_literals
refused_veto_message_in_a_script = refl

pub refused_x_outside_its_aggregate : Refuses
    (codes "{\"version\":4,\"classes\":[[\"acct\",[[\"bal\",\"int\"]]]],\"rules\":[],\"items\":[[\"tx\",[[\"let\",\"n\",[\"sum\",\"s\",\"acct\",true,[\"of\",\"s\",\"bal\"]],[[\"emit\",[\"key\",\"s\"]]]]]]]}") (codes "refused S4 /items/0/1/0/3/0/1/1")
unfolding script_on_literals
refused_x_outside_its_aggregate = refl

pub veto_message_fault_inside_a_sub : ReportsTree
    (codes "{\"version\":4,\"classes\":[],\"rules\":[[\"r\",[\"signal\",\"go\"],\"immediate\",[],\"immediate\",[[\"sub\",[[\"veto\",[\"new\",0,\"bal\"]]],[[\"emit\",1]]]]]],\"items\":[[\"tx\",[[\"install\",\"r\"],[\"signal\",\"go\",[]]]]]}") (codes "unit 1 committed" ∷ codes "emit 1" ∷ codes "  op install r" ∷ codes "  fire r immediate satisfied committed" ∷ codes "    sub aborted A6" ∷ codes "    emit 1" ∷ codes "final" ∷ codes "rule r enabled" ∷ codes "end" ∷ [])
unfolding script_on_literals
veto_message_fault_inside_a_sub = refl

pub veto_message_in_the_tree : ReportsTree
    (codes "{\"version\":4,\"classes\":[],\"rules\":[[\"r\",[\"signal\",\"go\"],\"immediate\",[[\"let\",\"m\",[\"+\",1,[\"arg\",0,0]]]],\"immediate\",[[\"sub\",[[\"emit\",1],[\"veto\",[\"value\",\"m\"]]],[[\"emit\",2]]],[\"emit\",3]]],[\"later\",[\"signal\",\"go\"],\"immediate\",[],\"immediate\",[[\"emit\",4]]]],\"items\":[[\"tx\",[[\"install\",\"r\"],[\"install\",\"later\"],[\"sub\",[[\"signal\",\"go\",[6]]],[[\"emit\",\"o\"]]]]]]}") (codes "unit 1 committed" ∷ codes "emit \"o\"" ∷ codes "  op install r" ∷ codes "  op install later" ∷ codes "  sub aborted A9 r 7" ∷ codes "    fire r immediate satisfied aborted A9 r 7" ∷ codes "      sub aborted A9 r 7" ∷ codes "        emit 1" ∷ codes "  emit \"o\"" ∷ codes "final" ∷ codes "rule r enabled" ∷ codes "rule later enabled" ∷ codes "end" ∷ [])
unfolding script_on_literals
veto_message_in_the_tree = refl

pub veto_message_of_an_inner_rule : ReportsTree
    (codes "{\"version\":4,\"classes\":[[\"acct\",[[\"bal\",\"int\"]]]],\"rules\":[[\"outer\",[\"signal\",\"go\"],\"immediate\",[],\"immediate\",[[\"update\",\"acct\",1,[[\"bal\",5]]],[\"emit\",1]]],[\"next\",[\"signal\",\"go\"],\"immediate\",[],\"immediate\",[[\"emit\",2]]],[\"guard\",[\"update\",\"acct\"],\"immediate\",[],\"immediate\",[[\"veto\",[\"new\",0,\"bal\"]]]]],\"items\":[[\"tx\",[[\"create\",\"acct\",1,[[\"bal\",0]]],[\"install\",\"outer\"],[\"install\",\"next\"],[\"install\",\"guard\"],[\"signal\",\"go\",[]]]]]}") (codes "unit 1 committed" ∷ codes "emit 2" ∷ codes "  op create acct 1 bal=0" ∷ codes "  op install outer" ∷ codes "  op install next" ∷ codes "  op install guard" ∷ codes "  fire outer immediate satisfied aborted A9 guard 5" ∷ codes "    op update acct 1 bal=5" ∷ codes "    fire guard immediate satisfied aborted A9 guard 5" ∷ codes "  fire next immediate satisfied committed" ∷ codes "    emit 2" ∷ codes "final" ∷ codes "object acct 1 bal=0" ∷ codes "rule outer enabled" ∷ codes "rule next enabled" ∷ codes "rule guard enabled" ∷ codes "end" ∷ [])
unfolding script_on_literals
veto_message_of_an_inner_rule = refl
