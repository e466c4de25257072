mod FewFields
