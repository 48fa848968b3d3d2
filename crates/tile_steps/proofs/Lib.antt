mod HullLaws
